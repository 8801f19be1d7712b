use Rattle.std.proofs.Common.{ℕ, set, Some, None, refl, ap, ◌∙◌}
use Rattle.pool.proofs.Pools.{holds-in}
use Rattle.register.proofs.Changing.{apart-resting, rests}
use Rattle.register.proofs.Keeping.{the_places}
use Rattle.register.proofs.Memory.{by-parts, left_in, reopened, rewritten, shown-joined}
use Rattle.register.proofs.Retiring.{kept-retired, retired, unretired}
use Rattle.register.proofs.Telling.{never}
use Rattle.register.specs.Registers.{pool_of}
use Rattle.register.specs.Tables.{line_of}
use Rattle.register.proofs.Handles.{all-sit, others-rest, refused-rest, rest-still, sit-still, sits, state-of-rest}
use Rattle.register.specs.Calls.{line_handle}
use Rattle.register.proofs.register.Register.retire.Goals as goal

pub returns-in_default-clause-told : goal.returns-in_default-clause-told
returns-in_default-clause-told g c =
    let self = c.args.self.now in
    record {
      step = unretired (pool_of self) self.table.lines c.args.line.place c.args.line.serial (line_of self.table.lines c.args.line.place c.args.line.serial) refl _ self.next c.in_default.ensures.0;
      unchanged = λ _. refl;
    }

pub returns-in_default-clause-same : goal.returns-in_default-clause-same
returns-in_default-clause-same g c = λ _. reopened c.args.self.now _ _ _ _

pub let_go-requires : goal.let_go-requires
let_go-requires g c =
    let self = c.args.self.now in
    let (xs, k) = the_places (pool_of self) self.table.lines self.kept in
    let at = rests (pool_of self) self.table.lines xs k c.args.line.place c.args.line.serial (Some c.in-Ok.record) c.in-Ok.ensures.0 c.in-Ok.ensures.1 in
    (_, _, holds-in (pool_of self) _ (apart-resting (pool_of self) self.table.lines xs k c.args.line.place c.args.line.serial (Some c.in-Ok.record) at))

pub invariant_of-self-2 : goal.invariant_of-self-2
invariant_of-self-2 g c =
    let self = c.args.self.now in
    let e = c.let_go.ensures in
    let p' = left_in self c.let_go.new.nodes c.let_go.new.state e.size in
    let (xs, k) = the_places (pool_of self) self.table.lines self.kept in
    rewritten self c.let_go.new.nodes c.let_go.new.state e.size c.free.new.self.lines _
    (kept-retired (pool_of self) self.table.lines c.args.line.place c.args.line.serial (Some c.in-Ok.record) c.in-Ok.ensures.0
    p' c.free.new.self.lines c.in-Ok.ensures.1 (λ t hs. by-parts (pool_of self) p' _ _ (e.owned t hs)) (c.free.ensures ∙ ap (λ (k : ℕ). set self.table.lines k None) c.spend-place.ensures) xs k)

pub returns-clause-told : goal.returns-clause-told
returns-clause-told g c =
    let self = c.args.self.now in
    let e = c.let_go.ensures in
    let p' = left_in self c.let_go.new.nodes c.let_go.new.state e.size in
    record {
      step = λ s shows. shown-joined self c.let_go.new.nodes c.let_go.new.state e.size _ _ _
          (retired (pool_of self) self.table.lines c.args.line.place c.args.line.serial (Some c.in-Ok.record) c.in-Ok.ensures.0
          p' c.free.new.self.lines c.in-Ok.ensures.1 (λ t hs. by-parts (pool_of self) p' _ _ (e.owned t hs)) (c.free.ensures ∙ ap (λ (k : ℕ). set self.table.lines k None) c.spend-place.ensures) _ self.next e.fewer e.size s shows);
      unchanged = never;
    }

pub returns-in_default-clause-accepted : goal.returns-in_default-clause-accepted
returns-in_default-clause-accepted g c =
    let self = c.args.self.now in
    refused-rest self (line_handle c.args.line) c.in_default.ensures.0

pub returns-in_default-clause-lines : goal.returns-in_default-clause-lines
returns-in_default-clause-lines g c = λ h apart. rest-still c.args.self.now _ refl h

pub returns-in_default-clause-sittings : goal.returns-in_default-clause-sittings
returns-in_default-clause-sittings g c = sit-still c.args.self.now _ refl

pub returns-clause-lines : goal.returns-clause-lines
returns-clause-lines g c =
    let self = c.args.self.now in
    others-rest self _ _ _ (c.free.ensures ∙ ap (λ (k : ℕ). set self.table.lines k None) c.spend-place.ensures) (line_handle c.args.line) refl

pub returns-clause-sittings : goal.returns-clause-sittings
returns-clause-sittings g c =
    let self = c.args.self.now in
    all-sit self _ _ _ (c.free.ensures ∙ ap (λ (k : ℕ). set self.table.lines k None) c.spend-place.ensures) (ap sits (state-of-rest self.table.lines _ _ _ c.in-Ok.ensures.0 c.in-Ok.ensures.1))
