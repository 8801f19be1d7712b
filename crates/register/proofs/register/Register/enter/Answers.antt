use Rattle.std.proofs.Common.{Some, sym, refl, ap, ◌∙◌, subst, ltb-false, ltb-true}
use Rattle.tree.proofs.Bound.{kind_of}
use Rattle.register.proofs.Entering.{declines, enterable, kept-entered, made, misnamed, sheet-carried, sheet-sturdy, too-late, unreadable, unseated}
use Rattle.register.proofs.Keeping.{the_places}
use Rattle.register.proofs.Passing.{passed}
use Rattle.register.proofs.Memory.{by-parts, enterable-again, left_in, reopened, rewritten, shown-joined}
use Rattle.register.proofs.Telling.{never, put-at}
use Rattle.register.specs.Calls.{enters, entry_answer, refused, sitting_handle}
use Rattle.register.specs.Contents.{names}
use Rattle.register.specs.Registers.{StepsTo, pool_of}
use Rattle.register.specs.Tables.{line_of}
use Rattle.register.specs.declared.refusal.Refusal.{Refusal}
use Rattle.register.proofs.Handles.{all-rest, record-there, rest-still, rests, sit-still, sits-on, state-of-sitting}
use Rattle.register.proofs.register.Register.enter.Goals as goal

pub returns-in_err-record-clause-told : goal.returns-in_err-record-clause-told
returns-in_err-record-clause-told g c =
    let self = c.args.self.now in
    record {
      step = passed (λ r. StepsTo (names g.N.Key.words g.N.Key.key g.N.Ord.cmp g.N.NameOrder.named g.N.NameOrder.name) self (enters (sitting_handle c.args.sitting.now) c.args.name.now c.args.measured c.args.change) (entry_answer r) self) _ _ c.from_residual.ensures.1
          (subst (λ (why : Refusal). StepsTo (names g.N.Key.words g.N.Key.key g.N.Ord.cmp g.N.NameOrder.named g.N.NameOrder.name) self (enters (sitting_handle c.args.sitting.now) c.args.name.now c.args.measured c.args.change) (refused why) self) (sym c.in_err-record.ensures.1)
          (unseated (pool_of self) self.table.lines c.args.sitting.now.place c.args.sitting.now.serial (line_of self.table.lines c.args.sitting.now.place c.args.sitting.now.serial) refl self.next c.args.name.now c.args.measured c.args.change _ c.in_err-record.ensures.0));
      unchanged = λ _. refl;
    }

pub returns-in_err-record-clause-same : goal.returns-in_err-record-clause-same
returns-in_err-record-clause-same g c = λ _. reopened c.args.self.now _ _ _ _

pub returns-in_err-name-clause-told : goal.returns-in_err-name-clause-told
returns-in_err-name-clause-told g c =
    let self = c.args.self.now in
    record {
      step = passed (λ r. StepsTo (names g.N.Key.words g.N.Key.key g.N.Ord.cmp g.N.NameOrder.named g.N.NameOrder.name) self (enters (sitting_handle c.args.sitting.now) c.args.name.now c.args.measured c.args.change) (entry_answer r) self) _ _ c.from_residual-in_err-name.ensures.1
          (misnamed (pool_of self) self.table.lines c.args.sitting.now.place c.args.sitting.now.serial (Some c.in_ok-record.record) c.in_ok-record.ensures.0 self.next c.args.name.now c.args.measured c.args.change c.in_ok-record.recorded c.in_ok-record.sheet c.in_ok-record.ensures.1 _ c.in_err-name.ensures);
      unchanged = λ _. refl;
    }

pub returns-in_err-name-clause-same : goal.returns-in_err-name-clause-same
returns-in_err-name-clause-same g c = λ _. reopened c.args.self.now _ _ _ _

pub returns-in_err-reading-clause-told : goal.returns-in_err-reading-clause-told
returns-in_err-reading-clause-told g c =
    let self = c.args.self.now in
    record {
      step = passed (λ r. StepsTo (names g.N.Key.words g.N.Key.key g.N.Ord.cmp g.N.NameOrder.named g.N.NameOrder.name) self (enters (sitting_handle c.args.sitting.now) c.args.name.now c.args.measured c.args.change) (entry_answer r) self) _ _ c.from_residual-in_err-reading.ensures.1
          (unreadable (pool_of self) self.table.lines c.args.sitting.now.place c.args.sitting.now.serial (Some c.in_ok-record.record) c.in_ok-record.ensures.0 self.next c.args.name.now c.args.measured c.args.change c.in_ok-record.recorded c.in_ok-record.sheet c.in_ok-record.ensures.1 c.in_ok-name.ensures.0 _ _ c.in_err-reading.ensures);
      unchanged = λ _. refl;
    }

pub returns-in_err-reading-clause-same : goal.returns-in_err-reading-clause-same
returns-in_err-reading-clause-same g c = λ _. reopened c.args.self.now _ _ _ _

pub returns-then-is_late-clause-told : goal.returns-then-is_late-clause-told
returns-then-is_late-clause-told g c =
    let self = c.args.self.now in
    record {
      step = too-late (pool_of self) self.table.lines c.args.sitting.now.place c.args.sitting.now.serial (Some c.in_ok-record.record) c.in_ok-record.ensures.0 self.next c.args.name.now c.args.measured c.args.change c.in_ok-record.recorded c.in_ok-record.sheet c.in_ok-record.ensures.1 c.in_ok-name.ensures.0 c.in_ok-reading.ensures.0 _ (ltb-true _ _ (sym c.is_late.ensures ∙ c.if-is_late.true));
      unchanged = λ _. refl;
    }

pub returns-then-is_late-clause-same : goal.returns-then-is_late-clause-same
returns-then-is_late-clause-same g c = λ _. reopened c.args.self.now _ _ _ _

pub card_to_change-requires : goal.card_to_change-requires
card_to_change-requires g c =
    let self = c.args.self.now in
    let (xs, k) = the_places (pool_of self) self.table.lines self.kept in
    (_, sheet-carried (pool_of self) self.table.lines c.args.sitting.now.place c.args.sitting.now.serial (Some c.in_ok-record.record) c.in_ok-record.ensures.0 self.next c.args.name.now c.args.measured c.args.change c.in_ok-record.recorded c.in_ok-record.sheet c.in_ok-record.ensures.1 xs k, sheet-sturdy (pool_of self) self.table.lines c.args.sitting.now.place c.args.sitting.now.serial (Some c.in_ok-record.record) c.in_ok-record.ensures.0 self.next c.args.name.now c.args.measured c.args.change c.in_ok-record.recorded c.in_ok-record.sheet c.in_ok-record.ensures.1 xs k)

pub returns-in_err-card-clause-told : goal.returns-in_err-card-clause-told
returns-in_err-card-clause-told g c =
    let self = c.args.self.now in
    record {
      step = passed (λ r. StepsTo (names g.N.Key.words g.N.Key.key g.N.Ord.cmp g.N.NameOrder.named g.N.NameOrder.name) self (enters (sitting_handle c.args.sitting.now) c.args.name.now c.args.measured c.args.change) (entry_answer r) self) _ _ c.from_residual-in_err-card.ensures.1
          (declines (pool_of self) self.table.lines c.args.sitting.now.place c.args.sitting.now.serial (Some c.in_ok-record.record) c.in_ok-record.ensures.0 self.next c.args.name.now c.args.measured c.args.change c.in_ok-record.recorded c.in_ok-record.sheet c.in_ok-record.ensures.1 c.in_ok-name.ensures.0 c.in_ok-reading.ensures.0 (kind_of g.met.N.Key g.met.N.Ord.total) g.N.NameOrder.named g.N.NameOrder.name (ltb-false _ _ (sym c.is_late.ensures ∙ c.if-is_late.false)) c.from-measured.result c.from-measured.ensures c.from_name-name.result (c.from_name-name.ensures ∙ ap g.N.NameOrder.named c.in_ok-name.ensures.1) _ c.in_err-card.ensures.declined);
      unchanged = λ _. refl;
    }

pub returns-in_err-card-clause-same : goal.returns-in_err-card-clause-same
returns-in_err-card-clause-same g c = λ _. reopened c.args.self.now _ _ _ _

pub change_sheet-sheet-requires : goal.change_sheet-sheet-requires
change_sheet-sheet-requires g c =
    let self = c.args.self.now in
    let (xs, k) = the_places (pool_of self) self.table.lines self.kept in
    record {
      card = c.in_ok-card.ensures.card;
      ready = λ p memory free used. enterable-again (pool_of self) p memory free used
          (enterable (pool_of self) self.table.lines c.args.sitting.now.place c.args.sitting.now.serial (Some c.in_ok-record.record) c.in_ok-record.ensures.0 self.next c.args.name.now c.args.measured c.args.change c.in_ok-record.recorded c.in_ok-record.sheet c.in_ok-record.ensures.1 c.in_ok-name.ensures.0 c.in_ok-reading.ensures.0 (kind_of g.met.N.Key g.met.N.Ord.total) g.N.NameOrder.named g.N.NameOrder.name (ltb-false _ _ (sym c.is_late.ensures ∙ c.if-is_late.false)) c.from-measured.result c.from-measured.ensures c.from_name-name.result (c.from_name-name.ensures ∙ ap g.N.NameOrder.named c.in_ok-name.ensures.1) c.in_ok-card.ensures.declined xs k self.table.sized);
    }

pub invariant_of-self-2 : goal.invariant_of-self-2
invariant_of-self-2 g c =
    let self = c.args.self.now in
    let e = c.change_sheet-sheet.ensures in
    let p' = left_in self c.change_sheet-sheet.new.nodes c.change_sheet-sheet.new.state e.size in
    let (xs, k) = the_places (pool_of self) self.table.lines self.kept in
    rewritten self c.change_sheet-sheet.new.nodes c.change_sheet-sheet.new.state e.size c.put.new.self.lines _ (kept-entered (pool_of self) self.table.lines c.args.sitting.now.place c.args.sitting.now.serial (Some c.in_ok-record.record) c.in_ok-record.ensures.0 self.next c.args.name.now c.args.measured c.args.change c.in_ok-record.recorded c.in_ok-record.sheet c.in_ok-record.ensures.1 c.in_ok-name.ensures.0 c.in_ok-reading.ensures.0 (kind_of g.met.N.Key g.met.N.Ord.total) g.N.NameOrder.named g.N.NameOrder.name (ltb-false _ _ (sym c.is_late.ensures ∙ c.if-is_late.false)) c.from-measured.result c.from-measured.ensures c.from_name-name.result (c.from_name-name.ensures ∙ ap g.N.NameOrder.named c.in_ok-name.ensures.1) c.in_ok-card.ensures.declined c.change_sheet-sheet.result p' _ (put-at self.table.lines _ _ _ _ _ c.put.ensures c.place.ensures c.seated.ensures) (λ t hs. by-parts (pool_of self) p' _ _ (e.owned c.args.change t hs c.in_ok-reading.ensures.1)) xs k)

pub returns-clause-told : goal.returns-clause-told
returns-clause-told g c =
    let self = c.args.self.now in
    let e = c.change_sheet-sheet.ensures in
    let p' = left_in self c.change_sheet-sheet.new.nodes c.change_sheet-sheet.new.state e.size in
    record {
      step = λ s shows. shown-joined self c.change_sheet-sheet.new.nodes c.change_sheet-sheet.new.state e.size _ _ _
          (made (pool_of self) self.table.lines c.args.sitting.now.place c.args.sitting.now.serial (Some c.in_ok-record.record) c.in_ok-record.ensures.0 self.next c.args.name.now c.args.measured c.args.change c.in_ok-record.recorded c.in_ok-record.sheet c.in_ok-record.ensures.1 c.in_ok-name.ensures.0 c.in_ok-reading.ensures.0 (kind_of g.met.N.Key g.met.N.Ord.total) g.N.NameOrder.named g.N.NameOrder.name (ltb-false _ _ (sym c.is_late.ensures ∙ c.if-is_late.false)) c.from-measured.result c.from-measured.ensures c.from_name-name.result (c.from_name-name.ensures ∙ ap g.N.NameOrder.named c.in_ok-name.ensures.1) c.in_ok-card.ensures.declined c.change_sheet-sheet.result p' _ (put-at self.table.lines _ _ _ _ _ c.put.ensures c.place.ensures c.seated.ensures) (λ t hs. by-parts (pool_of self) p' _ _ (e.owned c.args.change t hs c.in_ok-reading.ensures.1)) c.change_sheet-sheet.ensures.used c.change_sheet-sheet.ensures.size s shows);
      unchanged = never;
    }

pub returns-in_err-record-clause-lines : goal.returns-in_err-record-clause-lines
returns-in_err-record-clause-lines g c = rest-still c.args.self.now _ refl

pub returns-in_err-record-clause-sittings : goal.returns-in_err-record-clause-sittings
returns-in_err-record-clause-sittings g c = sit-still c.args.self.now _ refl

pub returns-in_err-name-clause-lines : goal.returns-in_err-name-clause-lines
returns-in_err-name-clause-lines g c = rest-still c.args.self.now _ refl

pub returns-in_err-name-clause-sittings : goal.returns-in_err-name-clause-sittings
returns-in_err-name-clause-sittings g c = sit-still c.args.self.now _ refl

pub returns-in_err-reading-clause-lines : goal.returns-in_err-reading-clause-lines
returns-in_err-reading-clause-lines g c = rest-still c.args.self.now _ refl

pub returns-in_err-reading-clause-sittings : goal.returns-in_err-reading-clause-sittings
returns-in_err-reading-clause-sittings g c = sit-still c.args.self.now _ refl

pub returns-then-is_late-clause-lines : goal.returns-then-is_late-clause-lines
returns-then-is_late-clause-lines g c = rest-still c.args.self.now _ refl

pub returns-then-is_late-clause-sittings : goal.returns-then-is_late-clause-sittings
returns-then-is_late-clause-sittings g c = sit-still c.args.self.now _ refl

pub returns-in_err-card-clause-lines : goal.returns-in_err-card-clause-lines
returns-in_err-card-clause-lines g c = rest-still c.args.self.now _ refl

pub returns-in_err-card-clause-sittings : goal.returns-in_err-card-clause-sittings
returns-in_err-card-clause-sittings g c = sit-still c.args.self.now _ refl

pub returns-clause-lines : goal.returns-clause-lines
returns-clause-lines g c =
    let self = c.args.self.now in
    let put = put-at self.table.lines _ _ _ _ _ c.put.ensures c.place.ensures c.seated.ensures in
    all-rest self _ _ _ put (ap rests (state-of-sitting self.table.lines _ _ _ _ _ c.in_ok-record.ensures.0 c.in_ok-record.ensures.1))

pub returns-clause-sittings : goal.returns-clause-sittings
returns-clause-sittings g c =
    let self = c.args.self.now in
    let put = put-at self.table.lines _ _ _ _ _ c.put.ensures c.place.ensures c.seated.ensures in
    sits-on self _ _ _ put c.in_ok-record.record c.in_ok-record.recorded c.change_sheet-sheet.result (record-there self.table.lines _ _ _ c.in_ok-record.ensures.0).0 refl
