use Rattle.std.proofs.Common.{Some, sym, refl, ◌∙◌, ltb-false, ltb-true, ap}
use Rattle.register.specs.Tables.{line_of, resting_record}
use Rattle.register.proofs.Ending.{committed, insertable, kept-committed, line-carried, too_few_lem, too-high, uncommitted}
use Rattle.register.proofs.Keeping.{the_places}
use Rattle.register.proofs.Memory.{by-parts, insertable-again, left_in, reopened, rewritten, shown-joined}
use Rattle.register.proofs.Telling.{never, put-at}
use Rattle.register.proofs.Handles.{all-rest, others-sit, record-there, rest-still, rests, rests-now, sit-still, state-of-sitting, within-lines}
use Rattle.register.specs.Calls.{sitting_handle}
use Rattle.register.proofs.register.Register.commit.Goals as goal
use Rattle.register.specs.Registers.{pool_of}

pub returns-in_default-clause-told : goal.returns-in_default-clause-told
returns-in_default-clause-told g c =
    let self = c.args.self.now in
    record {
      step = uncommitted (pool_of self) self.table.lines c.args.sitting.place c.args.sitting.serial (line_of self.table.lines c.args.sitting.place c.args.sitting.serial) refl c.in_default.ensures.0 _ self.next;
      unchanged = λ _. refl;
    }

pub returns-in_default-clause-same : goal.returns-in_default-clause-same
returns-in_default-clause-same g c = λ _. reopened c.args.self.now _ _ _ _

pub height_of-requires : goal.height_of-requires
height_of-requires g c =
    let self = c.args.self.now in
    let (xs, k) = the_places (pool_of self) self.table.lines self.kept in
    (_, line-carried (pool_of self) self.table.lines c.args.sitting.place c.args.sitting.serial (Some c.in-Ok.record) c.in-Ok.ensures.0 c.in-Ok.recorded c.in-Ok.sheet c.in-Ok.ensures.1 xs k)

pub returns-then-height_of-gt-HIGHEST-clause-told : goal.returns-then-height_of-gt-HIGHEST-clause-told
returns-then-height_of-gt-HIGHEST-clause-told g c =
    let self = c.args.self.now in
    record {
      step = too-high (pool_of self) self.table.lines c.args.sitting.place c.args.sitting.serial (Some c.in-Ok.record) c.in-Ok.ensures.0 c.in-Ok.recorded c.in-Ok.sheet c.in-Ok.ensures.1 _ self.next c.height_of.result c.height_of.ensures c.if-height_of-gt-HIGHEST.true;
      unchanged = λ _. refl;
    }

pub returns-then-height_of-gt-HIGHEST-clause-same : goal.returns-then-height_of-gt-HIGHEST-clause-same
returns-then-height_of-gt-HIGHEST-clause-same g c = λ _. reopened c.args.self.now _ _ _ _

pub returns-then-is_short-clause-told : goal.returns-then-is_short-clause-told
returns-then-is_short-clause-told g c =
    let self = c.args.self.now in
    record {
      step = too_few_lem (pool_of self) self.table.lines c.args.sitting.place c.args.sitting.serial (Some c.in-Ok.record) c.in-Ok.ensures.0 c.in-Ok.recorded c.in-Ok.sheet c.in-Ok.ensures.1 _ self.next c.height_of.result c.height_of.ensures c.if-height_of-gt-HIGHEST.false c.available.result c.available.ensures (ltb-true _ _ (sym c.is_short.ensures ∙ c.if-is_short.true));
      unchanged = λ _. refl;
    }

pub returns-then-is_short-clause-same : goal.returns-then-is_short-clause-same
returns-then-is_short-clause-same g c = λ _. reopened c.args.self.now _ _ _ _

pub add_stage-root-requires : goal.add_stage-root-requires
add_stage-root-requires g c =
    let self = c.args.self.now in
    let (xs, k) = the_places (pool_of self) self.table.lines self.kept in
    record {
      ready = λ p memory free used. insertable-again (pool_of self) p memory free used
          (insertable (pool_of self) self.table.lines c.args.sitting.place c.args.sitting.serial (Some c.in-Ok.record) c.in-Ok.ensures.0 c.in-Ok.recorded c.in-Ok.sheet c.in-Ok.ensures.1 c.height_of.result c.height_of.ensures c.if-height_of-gt-HIGHEST.false c.available.result c.available.ensures (ltb-false _ _ (sym c.is_short.ensures ∙ c.if-is_short.false)) xs k self.table.sized);
    }

pub invariant_of-self-2 : goal.invariant_of-self-2
invariant_of-self-2 g c =
    let self = c.args.self.now in
    let e = c.add_stage-root.ensures in
    let p' = left_in self c.add_stage-root.new.nodes c.add_stage-root.new.state e.size in
    let (xs, k) = the_places (pool_of self) self.table.lines self.kept in
    rewritten self c.add_stage-root.new.nodes c.add_stage-root.new.state e.size c.put.new.self.lines _
    (kept-committed (pool_of self) self.table.lines c.args.sitting.place c.args.sitting.serial (Some c.in-Ok.record) c.in-Ok.ensures.0 c.in-Ok.recorded c.in-Ok.sheet c.in-Ok.ensures.1 c.height_of.result c.height_of.ensures c.if-height_of-gt-HIGHEST.false c.available.result c.available.ensures (ltb-false _ _ (sym c.is_short.ensures ∙ c.if-is_short.false))
    c.from.result c.from.ensures c.add_stage-root.result p' _ (put-at self.table.lines _ _ _ _ _ c.put.ensures c.into_parts-place.ensures.place (c.resting.ensures ∙ (λ i. resting_record (c.into_parts-place.ensures.serial i) c.add_stage-root.result))) (λ t nested hs. by-parts (pool_of self) p' _ _ (e.owned t nested hs)) xs k)

pub returns-clause-told : goal.returns-clause-told
returns-clause-told g c =
    let self = c.args.self.now in
    let e = c.add_stage-root.ensures in
    let p' = left_in self c.add_stage-root.new.nodes c.add_stage-root.new.state e.size in
    record {
      step = λ s shows. shown-joined self c.add_stage-root.new.nodes c.add_stage-root.new.state e.size _ _ _
          (committed (pool_of self) self.table.lines c.args.sitting.place c.args.sitting.serial (Some c.in-Ok.record) c.in-Ok.ensures.0 c.in-Ok.recorded c.in-Ok.sheet c.in-Ok.ensures.1 c.height_of.result c.height_of.ensures c.if-height_of-gt-HIGHEST.false c.available.result c.available.ensures (ltb-false _ _ (sym c.is_short.ensures ∙ c.if-is_short.false))
          c.from.result c.from.ensures c.add_stage-root.result p' _ (put-at self.table.lines _ _ _ _ _ c.put.ensures c.into_parts-place.ensures.place (c.resting.ensures ∙ (λ i. resting_record (c.into_parts-place.ensures.serial i) c.add_stage-root.result))) (λ t nested hs. by-parts (pool_of self) p' _ _ (e.owned t nested hs)) _ self.next c.add_stage-root.ensures.appended c.add_stage-root.ensures.size s shows);
      unchanged = never;
    }

pub returns-clause-kept : goal.returns-clause-kept
returns-clause-kept g c = λ i. record { place = (c.from_parts.ensures.place ∙ c.into_parts-place.ensures.place) i; serial = (c.from_parts.ensures.serial ∙ c.into_parts-place.ensures.serial) i }

pub returns-in_default-clause-lines : goal.returns-in_default-clause-lines
returns-in_default-clause-lines g c = rest-still c.args.self.now _ refl

pub returns-in_default-clause-sittings : goal.returns-in_default-clause-sittings
returns-in_default-clause-sittings g c = λ h apart. sit-still c.args.self.now _ refl h

pub returns-then-height_of-gt-HIGHEST-clause-lines : goal.returns-then-height_of-gt-HIGHEST-clause-lines
returns-then-height_of-gt-HIGHEST-clause-lines g c = rest-still c.args.self.now _ refl

pub returns-then-height_of-gt-HIGHEST-clause-sittings : goal.returns-then-height_of-gt-HIGHEST-clause-sittings
returns-then-height_of-gt-HIGHEST-clause-sittings g c = λ h apart. sit-still c.args.self.now _ refl h

pub returns-then-is_short-clause-lines : goal.returns-then-is_short-clause-lines
returns-then-is_short-clause-lines g c = rest-still c.args.self.now _ refl

pub returns-then-is_short-clause-sittings : goal.returns-then-is_short-clause-sittings
returns-then-is_short-clause-sittings g c = λ h apart. sit-still c.args.self.now _ refl h

pub returns-clause-rests : goal.returns-clause-rests
returns-clause-rests g c =
    let self = c.args.self.now in
    let put = put-at self.table.lines _ _ _ _ _ c.put.ensures c.into_parts-place.ensures.place (c.resting.ensures ∙ (λ i. resting_record (c.into_parts-place.ensures.serial i) c.add_stage-root.result)) in
    rests-now self _ _ _ put (sitting_handle c.args.sitting) c.add_stage-root.result refl (within-lines self.table.lines _ _ (record-there self.table.lines _ _ _ c.in-Ok.ensures.0).0) refl

pub returns-clause-lines : goal.returns-clause-lines
returns-clause-lines g c =
    let self = c.args.self.now in
    let put = put-at self.table.lines _ _ _ _ _ c.put.ensures c.into_parts-place.ensures.place (c.resting.ensures ∙ (λ i. resting_record (c.into_parts-place.ensures.serial i) c.add_stage-root.result)) in
    all-rest self _ _ _ put (ap rests (state-of-sitting self.table.lines _ _ _ _ _ c.in-Ok.ensures.0 c.in-Ok.ensures.1))

pub returns-clause-sittings : goal.returns-clause-sittings
returns-clause-sittings g c =
    let self = c.args.self.now in
    let put = put-at self.table.lines _ _ _ _ _ c.put.ensures c.into_parts-place.ensures.place (c.resting.ensures ∙ (λ i. resting_record (c.into_parts-place.ensures.serial i) c.add_stage-root.result)) in
    others-sit self _ _ _ put (sitting_handle c.args.sitting) refl
