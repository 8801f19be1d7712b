use Rattle.std.proofs.Common.{refl, ◌∙◌, arith, Some, ap}
use Rattle.register.proofs.Beginning.{began, kept-begun, line-ready, sheet-carried, unbegun, unlater}
use Rattle.register.proofs.Changing.{length-places}
use Rattle.register.proofs.Keeping.{the_places}
use Rattle.register.proofs.Owning.{length-owners}
use Rattle.register.proofs.Memory.{by-parts, left_in, reopened, rewritten, shown-joined}
use Rattle.register.proofs.Telling.{never, put-at}
use Rattle.register.specs.Places.{owners_of}
use Rattle.register.proofs.Readable.{readable}
use Rattle.register.specs.Tables.{line_of}
use Rattle.register.proofs.Handles.{all-sit, others-rest, record-there, rest-still, sit-still, sits, sits-now, state-of-rest, within-lines}
use Rattle.register.specs.Calls.{line_handle}
use Rattle.register.proofs.register.Register.begin.Goals as goal
use Rattle.register.specs.Registers.{pool_of}
use Rattle.pool.proofs.Pools.{holds-in, sound-memory}

pub returns-in_default-clause-told : goal.returns-in_default-clause-told
returns-in_default-clause-told g c =
    let self = c.args.self.now in
    record {
      step = unbegun (pool_of self) self.table.lines c.args.line.place c.args.line.serial (line_of self.table.lines c.args.line.place c.args.line.serial) refl c.args.recorded _ self.next c.in_default.ensures.0;
      unchanged = λ _. refl;
    }

pub returns-in_default-clause-same : goal.returns-in_default-clause-same
returns-in_default-clause-same g c = λ _. reopened c.args.self.now _ _ _ _

pub sheet_for-requires : goal.sheet_for-requires
sheet_for-requires g c =
    let self = c.args.self.now in
    let (xs, k) = the_places (pool_of self) self.table.lines self.kept in
    readable _ _ (sound-memory (pool_of self) (owners_of xs) k.holds)
    (line-ready (pool_of self) self.table.lines c.args.line.place c.args.line.serial (Some c.in-Ok.record) c.in-Ok.ensures.0 c.args.recorded c.in-Ok.ensures.1 xs k)

pub returns-in-Err-clause-told : goal.returns-in-Err-clause-told
returns-in-Err-clause-told g c =
    let self = c.args.self.now in
    record {
      step = unlater (pool_of self) self.table.lines c.args.line.place c.args.line.serial (Some c.in-Ok.record) c.in-Ok.ensures.0 c.args.recorded c.in-Ok.ensures.1 _ self.next _ c.in-Err.ensures;
      unchanged = λ _. refl;
    }

pub returns-in-Err-clause-same : goal.returns-in-Err-clause-same
returns-in-Err-clause-same g c = λ _. reopened c.args.self.now _ _ _ _

pub sit_down-seated-requires : goal.sit_down-seated-requires
sit_down-seated-requires g c =
    let self = c.args.self.now in
    let (xs, k) = the_places (pool_of self) self.table.lines self.kept in
    let few = length-places (pool_of self) self.table.lines xs k in
    record {
      held = (owners_of xs, holds-in (pool_of self) _ k.holds, omega (arith, few, length-owners xs, self.table.sized));
      carried = (_, sheet-carried (pool_of self) self.table.lines c.args.line.place c.args.line.serial (Some c.in-Ok.record) c.in-Ok.ensures.0 c.args.recorded c.in-Ok.ensures.1 c.in-Ok-sheet_for.sheet c.in-Ok-sheet_for.ensures xs k);
    }

pub invariant_of-self-2 : goal.invariant_of-self-2
invariant_of-self-2 g c =
    let self = c.args.self.now in
    let e = c.sit_down-seated.ensures in
    let p' = left_in self c.sit_down-seated.new.nodes c.sit_down-seated.new.state e.size in
    let (xs, k) = the_places (pool_of self) self.table.lines self.kept in
    rewritten self c.sit_down-seated.new.nodes c.sit_down-seated.new.state e.size c.put.new.self.lines _
    (kept-begun (pool_of self) self.table.lines c.args.line.place c.args.line.serial (Some c.in-Ok.record) c.in-Ok.ensures.0 c.args.recorded c.in-Ok.ensures.1 c.in-Ok-sheet_for.sheet c.in-Ok-sheet_for.ensures
    p' _ (put-at self.table.lines _ _ _ _ _ c.put.ensures c.into_parts-place.ensures.place c.sit_down-seated.ensures.made) (λ t hs h carries. by-parts (pool_of self) p' _ _ (λ held. e.owned t hs held carries) h) xs k)

pub returns-clause-told : goal.returns-clause-told
returns-clause-told g c =
    let self = c.args.self.now in
    let e = c.sit_down-seated.ensures in
    let p' = left_in self c.sit_down-seated.new.nodes c.sit_down-seated.new.state e.size in
    record {
      step = λ s shows. shown-joined self c.sit_down-seated.new.nodes c.sit_down-seated.new.state e.size _ _ _
          (began (pool_of self) self.table.lines c.args.line.place c.args.line.serial (Some c.in-Ok.record) c.in-Ok.ensures.0 c.args.recorded c.in-Ok.ensures.1 c.in-Ok-sheet_for.sheet c.in-Ok-sheet_for.ensures
          p' _ (put-at self.table.lines _ _ _ _ _ c.put.ensures c.into_parts-place.ensures.place c.sit_down-seated.ensures.made) (λ t hs h carries. by-parts (pool_of self) p' _ _ (λ held. e.owned t hs held carries) h) _ self.next c.sit_down-seated.ensures.size c.sit_down-seated.ensures.used s shows);
      unchanged = never;
    }

pub returns-clause-kept : goal.returns-clause-kept
returns-clause-kept g c = λ i. record { place = (c.from_parts.ensures.place ∙ c.into_parts-place.ensures.place) i; serial = (c.from_parts.ensures.serial ∙ c.into_parts-place.ensures.serial) i }

pub returns-in_default-clause-lines : goal.returns-in_default-clause-lines
returns-in_default-clause-lines g c = λ h apart. rest-still c.args.self.now _ refl h

pub returns-in_default-clause-sittings : goal.returns-in_default-clause-sittings
returns-in_default-clause-sittings g c = sit-still c.args.self.now _ refl

pub returns-in-Err-clause-lines : goal.returns-in-Err-clause-lines
returns-in-Err-clause-lines g c = λ h apart. rest-still c.args.self.now _ refl h

pub returns-in-Err-clause-sittings : goal.returns-in-Err-clause-sittings
returns-in-Err-clause-sittings g c = sit-still c.args.self.now _ refl

pub returns-clause-sits : goal.returns-clause-sits
returns-clause-sits g c =
    let self = c.args.self.now in
    let there = record-there self.table.lines c.args.line.place c.args.line.serial c.in-Ok.record c.in-Ok.ensures.0 in
    let put = put-at self.table.lines _ _ _ _ _ c.put.ensures c.into_parts-place.ensures.place c.sit_down-seated.ensures.made in
    sits-now self _ _ _ put (line_handle c.args.line) c.in-Ok.record c.args.recorded _ refl (within-lines self.table.lines _ _ there.0) there.1 refl

pub returns-clause-lines : goal.returns-clause-lines
returns-clause-lines g c =
    let self = c.args.self.now in
    let put = put-at self.table.lines _ _ _ _ _ c.put.ensures c.into_parts-place.ensures.place c.sit_down-seated.ensures.made in
    others-rest self _ _ _ put (line_handle c.args.line) refl

pub returns-clause-sittings : goal.returns-clause-sittings
returns-clause-sittings g c =
    let self = c.args.self.now in
    let put = put-at self.table.lines _ _ _ _ _ c.put.ensures c.into_parts-place.ensures.place c.sit_down-seated.ensures.made in
    all-sit self _ _ _ put (ap sits (state-of-rest self.table.lines _ _ _ c.in-Ok.ensures.0 c.in-Ok.ensures.1))
