use Rattle.pool.proofs.Pools.{sound-memory}
use Rattle.register.proofs.Keeping.{the_places}
use Rattle.register.specs.Registers.{pool_of}
use Rattle.register.proofs.register.Register.card_to_change.Goals as goal

pub may_enter-requires-clause-held : goal.may_enter-requires-clause-held
may_enter-requires-clause-held g c =
    let self = c.args.self.now in
    let (xs, k) = the_places (pool_of self) self.table.lines self.kept in
    sound-memory (pool_of self) _ k.holds
