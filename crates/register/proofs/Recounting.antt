-- What is told of each line, by the calls and their answers alone, is what its trees hold; and how that stays so where one place changes.
use Rattle.std.proofs.Common.{◌≡◌, ℕ, ◌<◌, false, List, [], ◌∷◌, ◌++◌, length, get_or, set, Some, None, Option, sym, refl, ap, ◌∙◌, subst, inl, inr, arith}
use Rattle.std.proofs.ByRecursion.{All-push, All-weaker}
use Rattle.std.proofs.lemmas.List.{get_or-set_other, get_or-set_same}
use Rattle.std.proofs.lemmas.Bool.{cases_eq, eq-eqb, leb-false, ne_eqb}
use Rattle.std.specs.Option.{option_map}
use Rattle.std.specs.List.{AllByRecursion}
use Rattle.kinds.specs.declared.instant.Instant.{Instant}
use Rattle.pool.specs.Held.{Held}
use Rattle.pool.specs.Tree.{Tree, leaf}
use Rattle.tree.specs.Lookup.{last, last_of, or_else}
use Rattle.tree.specs.Shape.{Item}
use Rattle.register.proofs.Holding.{last-stage, stage_of}
use Rattle.register.proofs.Staging.{sheet-more, sheet_or, stages-more}
use Rattle.register.specs.Ascending.{Ascending}
use Rattle.register.specs.Asked.{sheet_from, sheet_with, stages_from}
use Rattle.register.specs.Calls.{Handle}
use Rattle.register.specs.Contents.{Names, Sheet, earlier, instant_at, last_sheet, nested_in, sheet_of, stages_of}
use Rattle.register.specs.Declined.{not_after}
use Rattle.register.specs.Histories.{Histories, Told, closed, nothing_told, with_entry, with_told}
use Rattle.register.specs.History.{Entry, History, InTime, Stage, WellNamed}
use Rattle.register.specs.Places.{Doing, Place, free, live, none, resting, sitting, stowed}

-- ---- one line of many

pub told_same : (told : Histories) (handle : Handle) (line : Told) → with_told told handle line handle ≡ line
told_same told handle line = rw (eq-eqb handle.place handle.place refl, eq-eqb handle.serial handle.serial refl)

pub told-other-place : (told : Histories) (handle : Handle) (line : Told) (h : Handle) → (h.place ≡ handle.place → ⊥) → with_told told handle line h ≡ told h
told-other-place told handle line h ne = rw (ne_eqb h.place handle.place ne)

-- ---- lists of stages

pub ascending-push : {A : Type 0} (before : A → A → Type 0) (xs : List A) (y : A) → Ascending before xs → AllByRecursion (λ x. before x y) xs → Ascending before (xs ++ y ∷ [])
ascending-push before [] y a h = (tt, tt)
ascending-push before (x ∷ xs) y a h = (All-push (before x) xs y a.0 h.0, ascending-push before xs y a.1 h.1)

module _ {K : Type 0} (𝓝 : Names K) where
  -- an instant after the last stage is after all of them
  pub all-before : (recorded : ℕ) (sheet : Sheet K) (history : History) → InTime history → not_after recorded (last_of (stages_from 𝓝 sheet history)) ≡ false
      → AllByRecursion (λ (s : Stage). s.recorded < recorded) history
  all-before recorded sheet [] time h = tt
  all-before recorded sheet (s ∷ []) time h = (leb-false recorded s.recorded h, tt)
  all-before recorded sheet (s ∷ t ∷ ts) time h =
      let one : Sheet K = sheet_from 𝓝 sheet s.entries in
      let two : Sheet K = sheet_from 𝓝 one t.entries in
      let rest = all-before recorded one (t ∷ ts) time.1 (skip (last_of (stages_from 𝓝 two ts)) (t.recorded, two) (s.recorded, one) h) in
      (omega (arith, time.0.0, rest.0), rest)
    where
      skip : (o : Option (ℕ × Sheet K)) (p q : ℕ × Sheet K) → not_after recorded (or_else (or_else o (Some p)) (Some q)) ≡ false
          → not_after recorded (or_else o (Some p)) ≡ false
      skip None p q h = h
      skip (Some z) p q h = h

  sheet-leaf : sheet_of 𝓝 leaf ≡ []
  unfolding sheet_of
  sheet-leaf = refl

  -- the sheet of the last stage
  pub last-sheet : (t : Tree) → sheet_of 𝓝 (last_sheet t) ≡ sheet_or 𝓝 [] (last_of (stages_of 𝓝 t))
  last-sheet t = one (last instant_at earlier t) ∙ ap (sheet_or 𝓝 []) (sym (last-stage 𝓝 t))
    where
      one : (o : Option (Item Instant)) → sheet_of 𝓝 (nested_in o) ≡ sheet_or 𝓝 [] (option_map (stage_of 𝓝) o)
      one None = sheet-leaf
      one (Some x) = refl

  -- ---- what is told of a line

  -- its tree holds the stages of its history
  pub record LineTold (line : Told) (stages : Held) : Type 0 where
    pub contents : stages_of 𝓝 stages.tree ≡ stages_from 𝓝 [] line.stages
    pub time : InTime line.stages
    pub rules : AllByRecursion (λ (s : Stage). WellNamed s.entries) line.stages

  -- the working sheet is the last stage's sheet with the entries so far
  pub record SittingTold (line : Told) (recorded : ℕ) (sheet : Held) : Type 0 where
    pub stage : Stage
    pub is : line.sitting ≡ Some stage
    pub recorded-is : stage.recorded ≡ recorded
    pub contents : sheet_of 𝓝 sheet.tree ≡ sheet_from 𝓝 (sheet_or 𝓝 [] (last_of (stages_from 𝓝 [] line.stages))) stage.entries
    pub rules : WellNamed stage.entries
    pub later : AllByRecursion (λ (s : Stage). s.recorded < recorded) line.stages

  abbrev pub DoingTold : Told → Doing → Type 0
  DoingTold line resting = Unit {0}
  DoingTold line (sitting recorded sheet) = SittingTold line recorded sheet
  DoingTold line (stowed letter) = Unit {0}

  -- by what is told of each serial
  abbrev pub PlaceTold : (ℕ → Told) → Place → Type 0
  PlaceTold told free = Unit {0}
  PlaceTold told (live n stages doing) = LineTold (told n) stages × DoingTold (told n) doing

  abbrev pub told_at : Histories → ℕ → ℕ → Told
  told_at told i n = told (record { place = i; serial = n })

  abbrev pub Recounted : Histories → List Place → Type 0
  Recounted told xs = (i : ℕ) → PlaceTold (told_at told i) (get_or xs i free)

  -- ---- one place changes

  place-moved : (told told' : ℕ → Told) → ((n : ℕ) → told' n ≡ told n) → (x : Place) → PlaceTold told x → PlaceTold told' x
  place-moved told told' same free h = tt
  place-moved told told' same (live n stages doing) h = subst (λ (line : Told). LineTold line stages × DoingTold line doing) (sym (same n)) h

  pub recounted-set : (told told' : Histories) (xs : List Place) (i : ℕ) (y : Place) → i < length xs
      → ((j : ℕ) → (j ≡ i → ⊥) → (n : ℕ) → told_at told' j n ≡ told_at told j n) → PlaceTold (told_at told' i) y → Recounted told xs → Recounted told' (set xs i y)
  recounted-set told told' xs i y within others here h = λ j.
      elim (cases_eq j i) [
        | inl e ↦ subst (λ (k : ℕ). PlaceTold (told_at told' k) (get_or (set xs i y) k free)) (sym e)
            (subst (PlaceTold (told_at told' i)) (sym (get_or-set_same xs i y free within)) here)
        | inr ne ↦ subst (PlaceTold (told_at told' j)) (sym (get_or-set_other xs i j y free ne))
            (place-moved (told_at told j) (told_at told' j) (others j ne) (get_or xs j free) (h j))
      ]

  pub recounted-with : (told : Histories) (xs : List Place) (handle : Handle) (line : Told) (stages : Held) (doing : Doing) → handle.place < length xs
      → LineTold line stages → DoingTold line doing → Recounted told xs
      → Recounted (with_told told handle line) (set xs handle.place (live handle.serial stages doing))
  recounted-with told xs handle line stages doing within l d =
      recounted-set told (with_told told handle line) xs handle.place (live handle.serial stages doing) within
      (λ j ne n. told-other-place told handle line (record { place = j; serial = n }) ne)
      (subst (λ (z : Told). LineTold z stages × DoingTold z doing) (sym (told_same told handle line)) (l, d))

  -- ---- what the calls tell

  pub told-nothing : LineTold nothing_told none
  unfolding stages_of
  told-nothing = record { contents = refl; time = tt; rules = tt }

  -- a history with another sitting
  pub told-again : (line line' : Told) (stages : Held) → line'.stages ≡ line.stages → LineTold line stages → LineTold line' stages
  told-again line line' stages e l =
      record {
        contents = l.contents ∙ ap (stages_from 𝓝 []) (sym e);
        time = subst InTime (sym e) l.time;
        rules = subst (AllByRecursion (λ (s : Stage). WellNamed s.entries)) (sym e) l.rules;
      }

  pub told-begun : (line : Told) (stages sheet : Held) (recorded : ℕ) → sheet.tree ≡ last_sheet stages.tree
      → not_after recorded (last_of (stages_of 𝓝 stages.tree)) ≡ false → LineTold line stages
      → SittingTold (record { stages = line.stages; sitting = Some (record { recorded = recorded; entries = [] }) }) recorded sheet
  told-begun line stages sheet recorded last later l =
      record {
        stage = record { recorded = recorded; entries = [] };
        is = refl;
        recorded-is = refl;
        contents = ap (sheet_of 𝓝) last ∙ last-sheet stages.tree ∙ ap (λ (ss : List (ℕ × Sheet K)). sheet_or 𝓝 [] (last_of ss)) l.contents;
        rules = tt;
        later = all-before recorded [] line.stages l.time (ap (λ (ss : List (ℕ × Sheet K)). not_after recorded (last_of ss)) (sym l.contents) ∙ later);
      }

  pub told-entered : (line : Told) (before sheet : Held) (recorded : ℕ) (e : Entry) → sheet_of 𝓝 sheet.tree ≡ sheet_with 𝓝 (sheet_of 𝓝 before.tree) e
      → WellNamed (e ∷ []) → SittingTold line recorded before
      → SittingTold (record { stages = line.stages; sitting = option_map (with_entry e) line.sitting }) recorded sheet
  told-entered line before sheet recorded e contents rule d =
      record {
        stage = with_entry e d.stage;
        is = ap (option_map (with_entry e)) d.is;
        recorded-is = d.recorded-is;
        contents = contents ∙ ap (λ (was : Sheet K). sheet_with 𝓝 was e) d.contents ∙ sym (sheet-more 𝓝 _ d.stage.entries e);
        rules = All-push _ d.stage.entries e d.rules rule.0;
        later = d.later;
      }

  pub closed_is : (line : Told) (stage : Stage) → line.sitting ≡ Some stage → closed line ≡ record { stages = line.stages ++ stage ∷ []; sitting = None }
  closed_is line stage e = rw e

  pub told-committed : (line : Told) (before stages sheet : Held) (recorded : ℕ)
      → stages_of 𝓝 stages.tree ≡ stages_of 𝓝 before.tree ++ (recorded, sheet_of 𝓝 sheet.tree) ∷ []
      → LineTold line before → SittingTold line recorded sheet → LineTold (closed line) stages
  told-committed line before stages sheet recorded contents l d =
      let stage : Stage = d.stage in
      subst (λ (z : Told). LineTold z stages) (sym (closed_is line stage d.is))
      record {
        contents = contents ∙ ap (λ (ss : List (ℕ × Sheet K)). ss ++ (recorded, sheet_of 𝓝 sheet.tree) ∷ []) l.contents
            ∙ ap (λ (r : ℕ). stages_from 𝓝 [] line.stages ++ (r, sheet_of 𝓝 sheet.tree) ∷ []) (sym d.recorded-is)
            ∙ ap (λ (z : Sheet K). stages_from 𝓝 [] line.stages ++ (stage.recorded, z) ∷ []) d.contents
            ∙ sym (stages-more 𝓝 [] line.stages stage);
        time = ascending-push _ line.stages stage l.time (All-weaker _ _ (λ s less. omega (arith, less, d.recorded-is)) line.stages d.later);
        rules = All-push _ line.stages stage l.rules d.rules;
      }
