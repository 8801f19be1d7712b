use Rattle.std.proofs.Common.{ap, ◌∙◌}
use Rattle.register.proofs.Finding.{card-ready, no_line, no_name, told}
use Rattle.register.proofs.Keeping.{the_places}
use Rattle.register.proofs.Passing.{passed}
use Rattle.register.specs.Calls.{line_handle}
use Rattle.register.specs.Contents.{names}
use Rattle.register.specs.Found.{CardReady, CardTold}
use Rattle.register.specs.Places.{owners_of}
use Rattle.register.proofs.register.Register.card_for.Goals as goal
use Rattle.pool.specs.Sound.{memory_of}
use Rattle.pool.proofs.Pools.{sound-memory}
use Rattle.register.specs.Registers.{pool_of}

pub returns-in_err-root : goal.returns-in_err-root
returns-in_err-root g c =
    let self = c.args.self.now in
    record {
      told = λ s shows.
          passed (λ r. CardTold (names g.N.Key.words g.N.Key.key g.N.Ord.cmp g.N.NameOrder.named g.N.NameOrder.name) (memory_of (pool_of self)) s (line_handle c.args.line.now) c.args.recorded c.args.name.now r) _ _ c.from_residual.ensures.1
          (no_line (names g.N.Key.words g.N.Key.key g.N.Ord.cmp g.N.NameOrder.named g.N.NameOrder.name) (memory_of (pool_of self)) s (line_handle c.args.line.now) c.args.recorded c.args.name.now c.in_err-root.field-0.0 (c.in_err-root.ensures.told s shows));
      ready = passed (λ r. CardReady (memory_of (pool_of self)) r) _ _ c.from_residual.ensures.1 tt;
    }

pub returns-in_err-name : goal.returns-in_err-name
returns-in_err-name g c =
    let self = c.args.self.now in
    record {
      told = λ s shows.
          passed (λ r. CardTold (names g.N.Key.words g.N.Key.key g.N.Ord.cmp g.N.NameOrder.named g.N.NameOrder.name) (memory_of (pool_of self)) s (line_handle c.args.line.now) c.args.recorded c.args.name.now r) _ _ c.from_residual-in_err-name.ensures.1
          (no_name (names g.N.Key.words g.N.Key.key g.N.Ord.cmp g.N.NameOrder.named g.N.NameOrder.name) (memory_of (pool_of self)) s (line_handle c.args.line.now) c.args.recorded c.args.name.now c.in_ok-root.root (c.in_ok-root.ensures.told s shows) c.in_err-name.ensures);
      ready = passed (λ r. CardReady (memory_of (pool_of self)) r) _ _ c.from_residual-in_err-name.ensures.1 tt;
    }

pub find_card-requires : goal.find_card-requires
find_card-requires g c =
    let self = c.args.self.now in
    let (xs, k) = the_places (pool_of self) self.table.lines self.kept in
    record { held = sound-memory (pool_of self) (owners_of xs) k.holds; carried = c.in_ok-root.ensures.ready }

pub returns : goal.returns
returns g c =
    let self = c.args.self.now in
    record {
      told = λ s shows.
          told (names g.N.Key.words g.N.Key.key g.N.Ord.cmp g.N.NameOrder.named g.N.NameOrder.name) (memory_of (pool_of self)) s (line_handle c.args.line.now) c.args.recorded c.args.name.now c.in_ok-root.root (c.in_ok-root.ensures.told s shows) c.in_ok-name.ensures.0 c.from.result c.from.ensures c.from_name.result
          (c.from_name.ensures ∙ ap g.N.NameOrder.named c.in_ok-name.ensures.1) c.find_card.result c.find_card.ensures;
      ready = card-ready (names g.N.Key.words g.N.Key.key g.N.Ord.cmp g.N.NameOrder.named g.N.NameOrder.name) (memory_of (pool_of self)) c.in_ok-root.root c.from.result c.from_name.result c.find_card.result c.find_card.ensures c.in_ok-root.ensures.ready;
    }
