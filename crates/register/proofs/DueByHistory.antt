-- The refusal that is due by the histories of the lines is the one by which a call is declined.
use Rattle.std.proofs.Common.{◌≡◌, ℕ, Bool, true, false, cond, not, ◌||◌, List, [], ◌∷◌, ◌++◌, Some, None, Option, is_some, sym, refl, ap, ◌∙◌, subst}
use Rattle.std.proofs.ByRecursion.{All-append}
use Rattle.std.specs.Prelude.{nat_le, nat_lt}
use Rattle.std.specs.Option.{option_map, option_map_or}
use Rattle.std.specs.List.{flat_map}
use Rattle.kinds.specs.Packed.{name_of}
use Rattle.kinds.specs.declared.name.Name.{Name}
use Rattle.pool.specs.Held.{Held}
use Rattle.tree.specs.Kind.{Kind}
use Rattle.tree.specs.Lookup.{last_of, or_else}
use Rattle.register.proofs.Accepting.{resting-at, sitting-at}
use Rattle.register.proofs.Asking.{entries-named}
use Rattle.register.proofs.Modelling.{stands-there}
use Rattle.register.proofs.Naming.{name-decided}
use Rattle.register.proofs.Recounting.{LineTold, Recounted, SittingTold}
use Rattle.register.proofs.Retelling.{told_at_lem}
use Rattle.register.proofs.Staging.{last-stage-sheet, sheet-append}
use Rattle.register.proofs.Timed.{names_of}
use Rattle.register.specs.Answering.{is_settled}
use Rattle.register.specs.Asked.{key_of, sheet_after, sheet_from, stages_from}
use Rattle.register.specs.Calls.{Call, Handle, abandons, asks, begins, branches, commits, enters, fetches, opens, retires, stows, tallies}
use Rattle.register.specs.Contents.{Names, Sheet, card_tree, read_at, sheet_of, stages_of}
use Rattle.register.specs.Declined.{declined, lacking, not_after, occupied, out_of_range, too_few, too_high}
use Rattle.register.specs.Due.{due, entries_of}
use Rattle.register.specs.Histories.{Histories, Told}
use Rattle.register.specs.History.{Entry, History, Stage, WellNamed, stands}
use Rattle.register.specs.Places.{Place, is_resting, is_sitting, recorded_at, resting, sheet_at, sitting, stages_at}
use Rattle.register.specs.Refusals.{first_of}
use Rattle.register.specs.Rules.{is_name}
use Rattle.register.specs.Shown.{Shown, at}
use Rattle.register.specs.declared.entries.Change.{Change}
use Rattle.register.specs.declared.refusal.Refusal.{Refusal}
use Rattle.register.specs.declared.refusal.Refusal.TheVariants.{MeasuredLater, NameBroken, NoReading, NoSuchLine, NodesShort, NotLater, ReadingOutOfRange, ReadingThere, TreeTooHigh}

-- behind a row, only what holds where its condition does not matters
behind : (b : Bool) (why : Refusal) (rest rest' : Option Refusal) → (b ≡ true → rest ≡ rest') → cond (not b) (Some why) rest ≡ cond (not b) (Some why) rest'
behind true why rest rest' e = e refl
behind false why rest rest' e = refl

or-else-map : {A B : Type 0} (f : A → B) (o : Option A) (x : A) → option_map f (or_else o (Some x)) ≡ or_else (option_map f o) (Some (f x))
or-else-map f None x = refl
or-else-map f (Some y) x = refl

module _ {K : Type 0} (𝓚 : Kind K) (named : Name → K) (called : K → Name) (back : (n : Name) → called (named n) ≡ n) where
  abbrev 𝓝 : Names K
  𝓝 = names_of 𝓚 named called

  -- ---- the last stage

  last-recorded : (sheet : Sheet K) (history : History)
      → option_map (λ (s : ℕ × Sheet K). s.0) (last_of (stages_from 𝓝 sheet history)) ≡ option_map (λ (s : Stage). s.recorded) (last_of history)
  last-recorded sheet [] = refl
  last-recorded sheet (s ∷ ss) =
      let after : Sheet K = sheet_from 𝓝 sheet s.entries in
      or-else-map (λ (x : ℕ × Sheet K). x.0) (last_of (stages_from 𝓝 after ss)) (s.recorded, after)
      ∙ ap (λ (o : Option ℕ). or_else o (Some s.recorded)) (last-recorded after ss)
      ∙ sym (or-else-map (λ (t : Stage). t.recorded) (last_of ss) s)

  settled-last-stage : (recorded : ℕ) (history : History) → is_settled recorded history ≡ not_after recorded (last_of (stages_from 𝓝 [] history))
  settled-last-stage recorded history =
      one (last_of history)
      ∙ ap (λ (o : Option ℕ). option_map_or (nat_le recorded) o false) (sym (last-recorded [] history))
      ∙ sym (two (last_of (stages_from 𝓝 [] history)))
    where
      one : (o : Option Stage) → option_map_or (λ (s : Stage). nat_le recorded s.recorded) o false ≡ option_map_or (nat_le recorded) (option_map (λ (s : Stage). s.recorded) o) false
      one None = refl
      one (Some s) = refl

      two : (o : Option (ℕ × Sheet K)) → not_after recorded o ≡ option_map_or (nat_le recorded) (option_map (λ (s : ℕ × Sheet K). s.0) o) false
      two None = refl
      two (Some s) = refl

  -- ---- the working sheet

  -- it is what all entries of the line leave
  working-sheet : (line : Told) (stages sheet : Held) (recorded : ℕ) → LineTold 𝓝 line stages → SittingTold 𝓝 line recorded sheet
      → sheet_of 𝓝 sheet.tree ≡ sheet_after 𝓝 (entries_of line)
  working-sheet line stages sheet recorded l d =
      let before : List Entry = flat_map (λ (s : Stage). s.entries) line.stages in
      d.contents ∙ ap (λ (z : Sheet K). sheet_from 𝓝 z d.stage.entries) (last-stage-sheet 𝓝 [] line.stages)
      ∙ sym (sheet-append 𝓝 [] before d.stage.entries)
      ∙ ap (λ (o : Option Stage). sheet_after 𝓝 (before ++ option_map_or (λ (s : Stage). s.entries) o [])) (sym d.is)

  all-named : (line : Told) (stages sheet : Held) (recorded : ℕ) → LineTold 𝓝 line stages → SittingTold 𝓝 line recorded sheet → WellNamed (entries_of line)
  all-named line stages sheet recorded l d =
      let rules : WellNamed (option_map_or (λ (s : Stage). s.entries) (Some d.stage) []) = d.rules in
      All-append _ (flat_map (λ (s : Stage). s.entries) line.stages) _ (entries-named line.stages l.rules)
      (subst (λ (o : Option Stage). WellNamed (option_map_or (λ (s : Stage). s.entries) o [])) (sym d.is) rules)

  there-told : (line : Told) (stages sheet : Held) (recorded : ℕ) → LineTold 𝓝 line stages → SittingTold 𝓝 line recorded sheet
      → (name : List ℕ) (measured : ℕ) → is_name name ≡ true
      → is_some (stands (entries_of line) name measured) ≡ read_at 𝓝 (key_of 𝓝 name) measured (sheet_of 𝓝 sheet.tree)
  there-told line stages sheet recorded l d name measured rule =
      ap is_some (sym (stands-there 𝓚 named called called back (entries_of line) name measured (all-named line stages sheet recorded l d) ((name-decided name).0 rule)))
      ∙ ap (read_at 𝓝 (key_of 𝓝 name) measured) (sym (working-sheet line stages sheet recorded l d))

  -- ---- the table

  module _ (told : Histories) (s : Shown) (h : Recounted 𝓝 told s.places) where
    due-begins : (g : Handle) (recorded : ℕ) → due 𝓝 told s (begins g recorded) ≡ declined 𝓝 s (begins g recorded)
    due-begins g recorded =
        behind (is_resting (at s g)) NoSuchLine _ _ (λ rests.
        let (stages, stood) = resting-at s.places g rests in
        let l = (told_at_lem 𝓝 told s.places g stages resting stood h).0 in
        ap (λ (settled : Bool). first_of ((settled, NotLater) ∷ (too_high (stages_at (at s g)).tree, TreeTooHigh) ∷ []))
        (settled-last-stage recorded (told g).stages
        ∙ ap (λ (ss : List (ℕ × Sheet K)). not_after recorded (last_of ss)) (sym l.contents)
        ∙ ap (λ (x : Place). not_after recorded (last_of (stages_of 𝓝 (stages_at x).tree))) (sym stood.whole)))

    due-enters : (g : Handle) (name : List ℕ) (measured : ℕ) (change : Change)
        → due 𝓝 told s (enters g name measured change) ≡ declined 𝓝 s (enters g name measured change)
    due-enters g name measured change =
        behind (is_sitting (at s g)) NoSuchLine _ _ (λ sits.
        behind (is_name name) NameBroken _ _ (λ rule.
        let (stages, recorded, sheet, stood) = sitting-at s.places g sits in
        let (l, d) = told_at_lem 𝓝 told s.places g stages (sitting recorded sheet) stood h in
        ap rows (there-told (told g) stages sheet recorded l d name measured rule
        ∙ ap (λ (x : Place). read_at 𝓝 (key_of 𝓝 name) measured (sheet_of 𝓝 (sheet_at x).tree)) (sym stood.whole))))
      where
        rows : Bool → Option Refusal
        rows there =
            let working = (sheet_at (at s g)).tree in
            first_of (
            (out_of_range change, ReadingOutOfRange) ∷
            (nat_lt (recorded_at (at s g)) measured, MeasuredLater) ∷
            (too_high working || too_high (card_tree 𝓝 (named (name_of name)) working), TreeTooHigh) ∷
            (occupied change there, ReadingThere) ∷
            (lacking change there, NoReading) ∷
            (too_few s, NodesShort) ∷
            [])

    pub due-declined : (call : Call) → due 𝓝 told s call ≡ declined 𝓝 s call
    due-declined opens = refl
    due-declined (branches g) = refl
    due-declined (begins g recorded) = due-begins g recorded
    due-declined (enters g name measured change) = due-enters g name measured change
    due-declined (commits g) = refl
    due-declined (abandons g) = refl
    due-declined (stows g letter) = refl
    due-declined (fetches letter) = refl
    due-declined (retires g) = refl
    due-declined tallies = refl
    due-declined (asks g recorded question) = refl
