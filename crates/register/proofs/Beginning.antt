-- Beginning a sitting.
use Rattle.std.proofs.Common.{◌≡◌, ℕ, ◌<◌, ◌≤◌, true, false, leb, List, [], ◌∷◌, length, set, ℤ, Some, None, Ok, Err, Option, sym, refl, ap, ◌∙◌, subst, arith, le-ltb, lt-ltb}
use Rattle.std.proofs.ByRecursion.{All-get_or}
use Rattle.std.specs.Option.{option_map}
use Rattle.std.specs.List.{AllByRecursion}
use Rattle.kinds.specs.declared.instant.Instant.{Instant}
use Rattle.pool.proofs.Pools.{held-carries, holds-nothing}
use Rattle.pool.proofs.Reorder.{holds-swapped}
use Rattle.pool.specs.Held.{Carries, CarriesIn, Held, Holds, held}
use Rattle.pool.specs.Sound.{memory_of, used_of}
use Rattle.pool.specs.Tree.{Tree, leaf}
use Rattle.pool.specs.declared.pool.Pool.{Pool}
use Rattle.tree.specs.Answer.{GivenItem}
use Rattle.tree.specs.Lookup.{last, last_of}
use Rattle.tree.specs.Shape.{Balanced, Item, height}
use Rattle.tree.specs.declared.root.Root.{Root}
use Rattle.register.proofs.Changing.{Rests, apart-resting, kept-apart, kept-changed, not-resting, place-of, rests, shows-changed}
use Rattle.register.proofs.Growing.{nested-last}
use Rattle.register.proofs.Holding.{before-later, last-stage, stage_of}
use Rattle.register.proofs.Owning.{others}
use Rattle.register.proofs.Standing.{line-balanced}
use Rattle.register.proofs.Telling.{accepted, first-false, refuses}
use Rattle.register.specs.Calls.{Handle, begins, done, refused}
use Rattle.register.specs.Contents.{Names, stages_of, earlier, instant_at, last_sheet, nested_in}
use Rattle.register.specs.Found.{SheetBefore, begin_refusal, not_after_item, not_after_stage, sheet_in}
use Rattle.register.specs.Declined.{declined, not_after, too_high}
use Rattle.register.specs.Kept.{Kept}
use Rattle.register.specs.Places.{Place, free, live, none, place_of, record_of, resting, sitting, stages_at}
use Rattle.register.specs.Shapes.{ByName, ByTime, Filed, Ordered, SheetWith, Sturdy}
use Rattle.register.specs.Shown.{Shown, Shows}
use Rattle.register.specs.Steps.{Step, becomes}
use Rattle.register.specs.Tables.{in_state, line_of, root_in, serial_in}
use Rattle.register.specs.declared.refusal.Refusal.{Refusal}
use Rattle.register.specs.declared.refusal.Refusal.TheVariants.{NoSuchLine, NotLater, TreeTooHigh}
use Rattle.register.specs.declared.table.Record.{Record}
use Rattle.register.specs.declared.table.State.TheVariants.{AtRest, Sitting}
use Rattle.pool.specs.declared.node.Node.{Node}

-- ---- what was found in the line

abbrev pub root_value : ℤ → ℕ → Root
root_value word link = record { link = link }

given-late : (mem : List Node) (recorded : ℕ) (o : Option (Item Instant)) (stage : Option (Instant × Root)) → GivenItem mem root_value o stage
    → not_after_stage recorded stage ≡ not_after_item recorded o
given-late mem recorded None None g = refl
given-late mem recorded None (Some stage) g = elim g [ ]
given-late mem recorded (Some x) None g = elim g [ ]
given-late mem recorded (Some x) (Some stage) g = ap (λ (i : Instant). leb recorded i.seconds) g.0

pub given-sheet : (mem : List Node) (o : Option (Item Instant)) (stage : Option (Instant × Root)) → GivenItem mem root_value o stage → CarriesIn mem (sheet_in stage) (nested_in o)
given-sheet mem None (Some stage) g = elim g [ ]
given-sheet mem (Some x) None g = elim g [ ]
given-sheet mem None None g = record { kept = λ h. absurd (omega arith); linked = refl }
given-sheet mem (Some x) (Some stage) g =
    subst (λ (r : Root). CarriesIn mem r.link x.nested) (sym g.1.value-is) g.1.carried

module _ (mem : List Node) (t : Tree) (recorded : ℕ) (stage : Option (Instant × Root)) (given : GivenItem mem root_value (last instant_at earlier t) stage) where
  pub begin-late : not_after_stage recorded stage ≡ true → SheetBefore mem t recorded (Err NotLater)
  begin-late late = rw (sym (given-late mem recorded (last instant_at earlier t) stage given) ∙ late)

  pub begin-high : not_after_stage recorded stage ≡ false → 24 < height t → SheetBefore mem t recorded (Err TreeTooHigh)
  begin-high later high = rw (sym (given-late mem recorded (last instant_at earlier t) stage given) ∙ later, lt-ltb 24 (height t) high)

  pub begin-on : (sheet : ℕ) → sheet ≡ sheet_in stage → not_after_stage recorded stage ≡ false → height t ≤ 24 → SheetBefore mem t recorded (Ok sheet)
  begin-on sheet is later low = (
    rw (sym (given-late mem recorded (last instant_at earlier t) stage given) ∙ later, le-ltb 24 (height t) low),
    subst (λ (n : ℕ). CarriesIn mem n (last_sheet t)) (sym is) (given-sheet mem (last instant_at earlier t) stage given),
  )

-- ---- the sitting

module _ (p : Pool) (ls : List (Option Record)) (place serial : ℕ) (r : Option Record) (is : r ≡ line_of ls place serial) (recorded : ℕ) where
  abbrev handle : Handle
  handle = record { place = place; serial = serial }

  pub unbegun : {K : Type 0} (𝓝 : Names K) (next : ℕ) → in_state AtRest r ≡ false
      → (s : Shown) → Shows 𝓝 p ls next s → (s' : Shown) × Shows 𝓝 p ls next s' × Step 𝓝 s (begins handle recorded) (refused NoSuchLine) s'
  unbegun 𝓝 next not_at =
      refuses 𝓝 p ls next (begins handle recorded) NoSuchLine (λ s shows. rw (not-resting p ls s.places shows.kept place serial r is not_at))

  module _ (rest : in_state AtRest r ≡ true) where
    pub at_rest : (xs : List Place) (k : Kept p ls xs) → Rests xs place serial r
    at_rest xs k = rests p ls xs k place serial r is rest

    -- the line's tree
    abbrev pub tree_of : (xs : List Place) → Kept p ls xs → Tree
    tree_of xs k = (at_rest xs k).stages.tree

    pub line-carried : (xs : List Place) (k : Kept p ls xs) → Carries p (root_in r) (tree_of xs k)
    line-carried xs k = held-carries p _ _ _ (apart-resting p ls xs k place serial r (at_rest xs k))

    pub line-ready : (xs : List Place) (k : Kept p ls xs) → (t : Tree) × Carries p (root_in r) t × Balanced t
    line-ready xs k =
        let at = at_rest xs k in
        (tree_of xs k, line-carried xs k, line-balanced p ls xs k place at.within serial at.stages resting at.here)

    late-same : {K : Type 0} (𝓝 : Names K) (t : Tree) → not_after recorded (last_of (stages_of 𝓝 t)) ≡ not_after_item recorded (last instant_at earlier t)
    late-same 𝓝 t = ap (not_after recorded) (last-stage 𝓝 t) ∙ one (last instant_at earlier t)
      where
        one : (o : Option (Item Instant)) → not_after recorded (option_map (stage_of 𝓝) o) ≡ not_after_item recorded o
        one None = refl
        one (Some x) = refl

    begin-declined : {K : Type 0} (𝓝 : Names K) (next : ℕ) (s : Shown) (shows : Shows 𝓝 p ls next s)
        → declined 𝓝 s (begins handle recorded) ≡ begin_refusal (tree_of s.places shows.kept) recorded
    begin-declined 𝓝 next s shows =
        let at = at_rest s.places shows.kept in
        let here = place-of s.places place serial at.stages resting at.here in
        rw (here, late-same 𝓝 at.stages.tree)

    pub unlater : {K : Type 0} (𝓝 : Names K) (next : ℕ) (why : Refusal) → ((t : Tree) → Carries p (root_in r) t → SheetBefore (memory_of p) t recorded (Err why))
        → (s : Shown) → Shows 𝓝 p ls next s → (s' : Shown) × Shows 𝓝 p ls next s' × Step 𝓝 s (begins handle recorded) (refused why) s'
    unlater 𝓝 next why found =
        refuses 𝓝 p ls next (begins handle recorded) why
        (λ s shows. begin-declined 𝓝 next s shows ∙ found _ (line-carried s.places shows.kept))

    module _ (sheet : ℕ) (found : (t : Tree) → Carries p (root_in r) t → SheetBefore (memory_of p) t recorded (Ok sheet)) where
      pub sheet-carried : (xs : List Place) (k : Kept p ls xs) → Carries p sheet (last_sheet (tree_of xs k))
      sheet-carried xs k = (found _ (line-carried xs k)).1

      module _ (p' : Pool) (ls' : List (Option Record)) (put : ls' ≡ set ls place (Some (record { serial = serial_in r; root = root_in r; state = Sitting recorded sheet })))
          (owned : (t : Tree) (hs : List Held) → Holds p hs → Carries p sheet t → Holds p' (held sheet t ∷ hs)) where
        module _ (xs : List Place) (k : Kept p ls xs) where
          abbrev pub begun : Place
          begun = live serial (at_rest xs k).stages (sitting recorded (held sheet (last_sheet (tree_of xs k))))

          begun-put : ls' ≡ set ls place (record_of begun)
          begun-put =
              let at = at_rest xs k in
              put ∙ ap (λ (z : Record). set ls place (Some z)) (λ i. record { serial = at.serial-is i; root = at.root_is i; state = Sitting recorded sheet })

          begun-holds : Holds p' ((at_rest xs k).stages ∷ held sheet (last_sheet (tree_of xs k)) ∷ others place xs)
          begun-holds =
              let at = at_rest xs k in
              let h = kept-apart p ls xs k place at.within (live serial at.stages resting) at.here in
              let without = holds-nothing p 0 leaf _ refl (holds-swapped p at.stages none (others place xs) h) in
              holds-swapped p' _ _ _ (owned _ _ without (sheet-carried xs k))

          begun-sturdy : AllByRecursion Sturdy xs → Sturdy begun
          begun-sturdy all =
              let at = at_rest xs k in
              let x = subst Sturdy at.here (All-get_or Sturdy xs place free at.within all) in
              (x.0, nested-last (SheetWith Balanced Filed) instant_at earlier (record { sheet = tt; cards = tt }) at.stages.tree x.0.sheets)

          pub kept-begun : Kept p' ls' (set xs place begun)
          kept-begun = kept-changed p ls xs k place (at_rest xs k).within p' ls' begun begun-put begun-holds begun-sturdy

        pub began : {K : Type 0} (𝓝 : Names K) (next : ℕ) → length (memory_of p') ≡ length (memory_of p) → used_of p' ≡ used_of p
            → (s : Shown) → Shows 𝓝 p ls next s → (s' : Shown) × Shows 𝓝 p' ls' next s' × Step 𝓝 s (begins handle recorded) done s'
        began 𝓝 next size used s shows =
            let xs = s.places in
            let k = shows.kept in
            let at = at_rest xs k in
            let go = begin-declined 𝓝 next s shows ∙ (found _ (line-carried xs k)).0 in
            let later : not_after recorded (last_of (stages_of 𝓝 at.stages.tree)) ≡ false = late-same 𝓝 at.stages.tree ∙ first-false _ NotLater ((too_high (tree_of xs k), TreeTooHigh) ∷ []) (found _ (line-carried xs k)).0 in
            let ordered : AllByRecursion (Ordered 𝓝) xs → Ordered 𝓝 (begun xs k) = λ all.
            (let x = subst (Ordered 𝓝) at.here (All-get_or (Ordered 𝓝) xs place free at.within all) in
            record {
              trees = (x.trees.0, nested-last (SheetWith (ByName 𝓝) ByTime) instant_at earlier (record { sheet = tt; cards = tt }) at.stages.tree x.trees.0.sheets);
              later = before-later 𝓝 recorded at.stages.tree later x.trees.0.line;
            }) in
            let shown = shows-changed 𝓝 p ls next s shows place at.within p' ls' next s.next (begun xs k) shows.next_is (begun-put xs k) (begun-holds xs k) (begun-sturdy xs k) ordered size in
            let same : at.stages ≡ stages_at (place_of xs place serial) = sym (ap stages_at (place-of xs place serial at.stages resting at.here)) in
            let after : ◌≡◌ {A = Shown} _ (becomes s handle (stages_at (place_of xs place serial)) (sitting recorded (held sheet (last_sheet at.stages.tree)))) = λ i.
            record { places = set xs place (live serial (same i) (sitting recorded (held sheet (last_sheet at.stages.tree)))); next = s.next; nodes = s.nodes; used = (used ∙ shows.used_is) i } in
            (_, shown, accepted 𝓝 s _ (begins handle recorded) done go (refl, record { sheet = _; last = ap (λ (h : Held). last_sheet h.tree) same; after = after }))
