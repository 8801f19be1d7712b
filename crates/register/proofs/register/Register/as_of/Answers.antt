use Rattle.tree.proofs.Bound.{kind_of}
use Rattle.register.proofs.Keeping.{the_places}
use Rattle.register.proofs.Responding.{as-of-answered, as-of-declined}
use Rattle.register.proofs.Passing.{passed}
use Rattle.register.specs.Calls.{as_of, asks, found_answer, line_handle}
use Rattle.register.specs.Contents.{names}
use Rattle.register.specs.Registers.{Answers, pool_of}
use Rattle.register.specs.Places.{owners_of}
use Rattle.register.proofs.Readable.{readable}
use Rattle.register.proofs.register.Register.as_of.Goals as goal
use Rattle.pool.proofs.Pools.{sound-memory}

pub returns-in_err-card : goal.returns-in_err-card
returns-in_err-card g c =
    let self = c.args.self.now in
    passed (λ r. Answers (names g.N.Key.words g.N.Key.key g.N.Ord.cmp g.N.NameOrder.named g.N.NameOrder.name) self (asks (line_handle c.args.line.now) c.args.recorded (as_of c.args.name.now c.args.measured)) (found_answer r)) _ _ c.from_residual.ensures.1
    (λ s shows. as-of-declined (kind_of g.met.N.Key g.met.N.Ord.total) g.N.NameOrder.named g.N.NameOrder.name (pool_of self) self.table.lines self.next s shows (line_handle c.args.line.now) c.args.recorded c.ranges.recorded.fits c.args.name.now c.in_err-card.field-0.0 c.args.measured (c.in_err-card.ensures.told s shows))

pub at_most-requires : goal.at_most-requires
at_most-requires g c =
    let self = c.args.self.now in
    let (xs, k) = the_places (pool_of self) self.table.lines self.kept in
    let (t, carries, filed) = c.in_ok-card.ensures.ready in
    readable _ _ (sound-memory (pool_of self) (owners_of xs) k.holds) (t, carries, filed.balanced)

pub returns : goal.returns
returns g c = λ s shows.
    let self = c.args.self.now in
    as-of-answered (kind_of g.met.N.Key g.met.N.Ord.total) g.N.NameOrder.named g.N.NameOrder.name (pool_of self) self.table.lines self.next s shows (line_handle c.args.line.now) c.args.recorded c.ranges.recorded.fits c.args.name.now c.in_ok-card.card (c.in_ok-card.ensures.told s shows) c.in_ok-card.ensures.ready c.from.result c.args.measured c.from.ensures c.at_most.result c.at_most.ensures.listed
