use Rattle.std.proofs.Common.{Some, refl, ◌∙◌, ap}
use Rattle.register.specs.Tables.{line_of, resting_record}
use Rattle.register.proofs.Ending.{abandoned, kept-abandoned, seat, sheet-first, unabandoned}
use Rattle.register.proofs.Keeping.{the_places}
use Rattle.register.proofs.Memory.{by-parts, left_in, reopened, rewritten, shown-joined}
use Rattle.register.proofs.Telling.{never, put-at}
use Rattle.pool.proofs.Pools.{holds-in}
use Rattle.register.proofs.Handles.{all-rest, others-sit, record-there, refused-sitting, rest-still, rests, rests-now, sit-still, state-of-sitting, within-lines}
use Rattle.register.specs.Calls.{sitting_handle}
use Rattle.register.proofs.register.Register.abandon.Goals as goal
use Rattle.register.specs.Registers.{pool_of}

pub returns-in_default-clause-told : goal.returns-in_default-clause-told
returns-in_default-clause-told g c =
    let self = c.args.self.now in
    record {
      step = unabandoned (pool_of self) self.table.lines c.args.sitting.place c.args.sitting.serial (line_of self.table.lines c.args.sitting.place c.args.sitting.serial) refl c.in_default.ensures.0 _ self.next;
      unchanged = λ _. refl;
    }

pub returns-in_default-clause-same : goal.returns-in_default-clause-same
returns-in_default-clause-same g c = λ _. reopened c.args.self.now _ _ _ _

pub stand_up-rested-requires : goal.stand_up-rested-requires
stand_up-rested-requires g c =
    let self = c.args.self.now in
    let (xs, k) = the_places (pool_of self) self.table.lines self.kept in
    (_, _, holds-in (pool_of self) _ (sheet-first (pool_of self) self.table.lines c.args.sitting.place c.args.sitting.serial (Some c.in-Ok.record) c.in-Ok.ensures.0 _ c.in-Ok.sheet c.in-Ok.ensures.1 xs k))

pub invariant_of-self-2 : goal.invariant_of-self-2
invariant_of-self-2 g c =
    let self = c.args.self.now in
    let e = c.stand_up-rested.ensures in
    let p' = left_in self c.stand_up-rested.new.nodes c.stand_up-rested.new.state e.size in
    let (xs, k) = the_places (pool_of self) self.table.lines self.kept in
    rewritten self c.stand_up-rested.new.nodes c.stand_up-rested.new.state e.size c.put.new.self.lines _
    (kept-abandoned (pool_of self) self.table.lines c.args.sitting.place c.args.sitting.serial (Some c.in-Ok.record) c.in-Ok.ensures.0 _ c.in-Ok.sheet c.in-Ok.ensures.1 p' _
    (put-at self.table.lines _ _ _ _ _ c.put.ensures c.into_parts-place.ensures.place (c.stand_up-rested.ensures.made ∙ (λ i. resting_record ((seat (pool_of self) self.table.lines c.args.sitting.place c.args.sitting.serial (Some c.in-Ok.record) c.in-Ok.ensures.0 _ c.in-Ok.sheet c.in-Ok.ensures.1 xs k).serial-is i) c.in-Ok.record.root))) (λ t hs. by-parts (pool_of self) p' _ _ (e.owned t hs)) xs k)

pub returns-clause-told : goal.returns-clause-told
returns-clause-told g c =
    let self = c.args.self.now in
    let e = c.stand_up-rested.ensures in
    let p' = left_in self c.stand_up-rested.new.nodes c.stand_up-rested.new.state e.size in
    let (xs, k) = the_places (pool_of self) self.table.lines self.kept in
    record {
      step = λ s shows. shown-joined self c.stand_up-rested.new.nodes c.stand_up-rested.new.state e.size _ _ _
          (abandoned (pool_of self) self.table.lines c.args.sitting.place c.args.sitting.serial (Some c.in-Ok.record) c.in-Ok.ensures.0 _ c.in-Ok.sheet c.in-Ok.ensures.1 p' _
          (put-at self.table.lines _ _ _ _ _ c.put.ensures c.into_parts-place.ensures.place (c.stand_up-rested.ensures.made ∙ (λ i. resting_record ((seat (pool_of self) self.table.lines c.args.sitting.place c.args.sitting.serial (Some c.in-Ok.record) c.in-Ok.ensures.0 _ c.in-Ok.sheet c.in-Ok.ensures.1 xs k).serial-is i) c.in-Ok.record.root))) (λ t hs. by-parts (pool_of self) p' _ _ (e.owned t hs))
          _ self.next c.stand_up-rested.ensures.fewer c.stand_up-rested.ensures.size s shows);
      unchanged = never;
    }

pub returns-clause-kept : goal.returns-clause-kept
returns-clause-kept g c = λ i. record { place = (c.from_parts.ensures.place ∙ c.into_parts-place.ensures.place) i; serial = (c.from_parts.ensures.serial ∙ c.into_parts-place.ensures.serial) i }

pub returns-in_default-clause-accepted : goal.returns-in_default-clause-accepted
returns-in_default-clause-accepted g c = λ t. absurd (refused-sitting c.args.self.now (sitting_handle c.args.sitting) c.in_default.ensures.0 t)

pub returns-in_default-clause-lines : goal.returns-in_default-clause-lines
returns-in_default-clause-lines g c = rest-still c.args.self.now _ refl

pub returns-in_default-clause-sittings : goal.returns-in_default-clause-sittings
returns-in_default-clause-sittings g c = λ h apart. sit-still c.args.self.now _ refl h

pub returns-clause-rests : goal.returns-clause-rests
returns-clause-rests g c =
    let self = c.args.self.now in
    let (xs, k) = the_places (pool_of self) self.table.lines self.kept in
    let put = put-at self.table.lines _ _ _ _ _ c.put.ensures c.into_parts-place.ensures.place (c.stand_up-rested.ensures.made ∙ (λ i. resting_record ((seat (pool_of self) self.table.lines c.args.sitting.place c.args.sitting.serial (Some c.in-Ok.record) c.in-Ok.ensures.0 _ c.in-Ok.sheet c.in-Ok.ensures.1 xs k).serial-is i) c.in-Ok.record.root)) in
    rests-now self _ _ _ put (sitting_handle c.args.sitting) c.in-Ok.record.root refl (within-lines self.table.lines _ _ (record-there self.table.lines _ _ _ c.in-Ok.ensures.0).0) refl

pub returns-clause-lines : goal.returns-clause-lines
returns-clause-lines g c =
    let self = c.args.self.now in
    let put = put-at self.table.lines _ _ _ _ _ c.put.ensures c.into_parts-place.ensures.place refl in
    all-rest self _ _ _ put (ap rests (state-of-sitting self.table.lines _ _ _ _ _ c.in-Ok.ensures.0 c.in-Ok.ensures.1))

pub returns-clause-sittings : goal.returns-clause-sittings
returns-clause-sittings g c =
    let self = c.args.self.now in
    let put = put-at self.table.lines _ _ _ _ _ c.put.ensures c.into_parts-place.ensures.place refl in
    others-sit self _ _ _ put (sitting_handle c.args.sitting) refl
