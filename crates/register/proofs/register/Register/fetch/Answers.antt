use Rattle.std.proofs.Common.{◌≡◌, sym, refl, ◌∙◌, subst, rules, Some, ap}
use Rattle.register.specs.Calls.{fetches, handed, line_answer, refused, line_handle}
use Rattle.register.specs.Contents.{names}
use Rattle.register.specs.Registers.{Tells, pool_of}
use Rattle.register.proofs.Passing.{passed}
use Rattle.register.proofs.Keeping.{the_places}
use Rattle.register.proofs.Shelving.{empty-shelf, fetched, kept-fetched}
use Rattle.register.proofs.Memory.{unwritten}
use Rattle.register.proofs.Telling.{put-at, made_at}
use Rattle.register.specs.declared.refusal.Refusal.{Refusal}
use Rattle.register.specs.declared.refusal.Refusal.TheVariants.{ShelfEmpty}
use Rattle.register.proofs.Handles.{all-rest, all-sit, rests-now, shelf-apart, within-lines}
use Rattle.register.proofs.register.Register.fetch.Goals as goal

pub returns-in_err-place-clause-told : goal.returns-in_err-place-clause-told
returns-in_err-place-clause-told g c =
    let self = c.args.self.now in
    let met : c.in_err-place.field-0.0 ≡ ShelfEmpty = search rules in
    passed (λ r. Tells (names g.N.Key.words g.N.Key.key g.N.Ord.cmp g.N.NameOrder.named g.N.NameOrder.name) self (fetches c.args.letter) (line_answer r) self) _ _ c.from_residual.ensures.1
    (subst (λ (why : Refusal). Tells (names g.N.Key.words g.N.Key.key g.N.Ord.cmp g.N.NameOrder.named g.N.NameOrder.name) self (fetches c.args.letter) (refused why) self) (sym met)
    (record { step = empty-shelf (pool_of self) self.table.lines c.args.letter _ self.next (sym c.is_ascii_uppercase.ensures.value ∙ c.if-not-is_ascii_uppercase.false) (search rules); unchanged = λ _. refl }))

pub invariant_of-self : goal.invariant_of-self
invariant_of-self g c =
    let self = c.args.self.now in
    let (xs, k) = the_places (pool_of self) self.table.lines self.kept in
    let rests = kept-fetched (pool_of self) self.table.lines c.args.letter c.in_ok-place.place (search rules) c.in_ok-place.record (search rules) _
    (put-at self.table.lines _ _ _ _ _ c.put.ensures refl c.rested.ensures) xs k in
    unwritten self c.put.new.self.lines _ rests.1

pub returns-clause-told : goal.returns-clause-told
returns-clause-told g c =
    let self = c.args.self.now in
    record {
      step = fetched (pool_of self) self.table.lines c.args.letter c.in_ok-place.place (search rules) c.in_ok-place.record (search rules) _
          (put-at self.table.lines _ _ _ _ _ c.put.ensures refl c.rested.ensures) _ self.next (sym c.is_ascii_uppercase.ensures.value ∙ c.if-not-is_ascii_uppercase.false) _
          (λ i. handed (record { place = c.line_at.ensures.place i; serial = c.line_at.ensures.serial i }));
      unchanged = λ _. refl;
    }

pub returns-clause-rests : goal.returns-clause-rests
returns-clause-rests g c =
    let self = c.args.self.now in
    rests-now self _ _ _ c.put.ensures (line_handle c.line_at.result) c.in_ok-place.record.root c.line_at.ensures.place (within-lines self.table.lines c.in_ok-place.place c.in_ok-place.record (search rules)) (ap Some (made_at _ _ _ _ (sym c.line_at.ensures.serial) c.rested.ensures))

pub returns-clause-lines : goal.returns-clause-lines
returns-clause-lines g c =
    let self = c.args.self.now in
    all-rest self _ _ _ c.put.ensures (shelf-apart self.table.lines c.args.letter c.in_ok-place.place (search rules)).0

pub returns-clause-sittings : goal.returns-clause-sittings
returns-clause-sittings g c =
    let self = c.args.self.now in
    all-sit self _ _ _ c.put.ensures (shelf-apart self.table.lines c.args.letter c.in_ok-place.place (search rules)).1
