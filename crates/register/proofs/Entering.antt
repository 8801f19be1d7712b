-- Making an entry on the working sheet of a sitting.
use Rattle.std.proofs.Common.{◌≡◌, ℕ, ◌+◌, ◌-◌, ◌*◌, ◌<◌, ◌≤◌, Bool, true, false, cond, ◌||◌, ltb, List, [], ◌∷◌, length, set, is_some, Some, None, Option, sym, refl, ap, ◌∙◌, subst, arith, ltb-false, le-ltb, lt-ltb}
use Rattle.std.proofs.ByRecursion.{All-get_or}
use Rattle.std.specs.List.{AllByRecursion}
use Rattle.kinds.specs.Name.{IsName}
use Rattle.kinds.specs.Packed.{name_of}
use Rattle.kinds.specs.declared.instant.Instant.{Instant}
use Rattle.kinds.specs.declared.name.Name.{Name}
use Rattle.pool.proofs.Pools.{held-carries}
use Rattle.pool.proofs.Reorder.{holds-swapped}
use Rattle.pool.specs.Held.{Carries, Held, Holds, held}
use Rattle.pool.specs.Sound.{memory_of, used_of}
use Rattle.pool.specs.Tree.{Tree}
use Rattle.pool.specs.declared.pool.Pool.{Pool}
use Rattle.tree.specs.Kind.{Kind}
use Rattle.tree.specs.Lookup.{find}
use Rattle.tree.specs.Shape.{Balanced, height}
use Rattle.register.proofs.Changing.{Sits, kept-changed, length-places, not-sitting, shows-changed}
use Rattle.register.proofs.Ending.{seat, seat-here, sheet-first}
use Rattle.register.proofs.Filing.{sturdy-entered}
use Rattle.register.proofs.Growing.{ordered-entered}
use Rattle.register.proofs.Holding.{read_at_lem, sheet-entered-contents}
use Rattle.register.proofs.Owning.{length-others, others}
use Rattle.register.proofs.Ruled.{name-fails, name-passes}
use Rattle.register.proofs.Standing.{by-sturdy, sheet-prop}
use Rattle.register.proofs.Telling.{accepted, refuses}
use Rattle.register.proofs.Timed.{names_of}
use Rattle.register.specs.Calls.{Call, done, enters, refused}
use Rattle.register.specs.Contents.{Names, card_tree, earlier, entered, instant_at, read_at, sheet_of}
use Rattle.register.specs.Declined.{declined, lacking, occupied, out_of_range, too_few, too_high}
use Rattle.register.specs.Entries.{Enterable, entry_refusal}
use Rattle.register.specs.Kept.{Kept}
use Rattle.register.specs.Places.{Place, free, live, place_of, record_of, recorded_at, sheet_at, sitting, stages_at}
use Rattle.register.specs.Refusals.{first_of}
use Rattle.register.specs.Shapes.{ByName, ByTime, Filed, Ordered, SheetWith, Sturdy}
use Rattle.register.specs.Shown.{Shown, Shows}
use Rattle.register.specs.Steps.{Step}
use Rattle.register.specs.Tables.{line_of, root_in, serial_in, state_in}
use Rattle.register.specs.Trees.{entered_tree}
use Rattle.register.specs.declared.entries.Change.{Change}
use Rattle.register.specs.declared.refusal.Refusal.{Refusal}
use Rattle.register.specs.declared.refusal.Refusal.TheVariants.{MeasuredLater, NameBroken, NoReading, NoSuchLine, NodesShort, ReadingOutOfRange, ReadingThere, TreeTooHigh}
use Rattle.register.specs.declared.table.Record.{Record}
use Rattle.register.specs.declared.table.State.TheVariants.{Sitting}

-- ---- the refusals of an entry by its sheet

-- the conditions, by their tests
abbrev rows : Bool → Change → Bool → Bool → Option Refusal
rows high change there few = first_of ((high, TreeTooHigh) ∷ (occupied change there, ReadingThere) ∷ (lacking change there, NoReading) ∷ (few, NodesShort) ∷ [])

conflict-rows : (a b few : Bool) (o : Option Refusal) → o ≡ first_of ((a, ReadingThere) ∷ (b, NoReading) ∷ [])
    → first_of ((a, ReadingThere) ∷ (b, NoReading) ∷ (few, NodesShort) ∷ []) ≡ elim o [ Some why ↦ Some why | None ↦ cond few (Some NodesShort) None ]
conflict-rows true b few o e = rw e
conflict-rows false true few o e = rw e
conflict-rows false false few o e = rw e

module _ {K : Type 0} (𝓝 : Names K) (t : Tree) (name : K) (measured : Instant) (change : Change) (spare : ℕ) (there : Bool)
    (read : there ≡ is_some (find instant_at earlier measured (card_tree 𝓝 name t))) (low : height t ≤ 24) (low_card : height (card_tree 𝓝 name t) ≤ 24) where
  pub by-conflict : (o : Option Refusal) → o ≡ first_of ((occupied change there, ReadingThere) ∷ (lacking change there, NoReading) ∷ [])
      → entry_refusal 𝓝 t name measured change spare ≡ elim o [ Some why ↦ Some why | None ↦ cond (ltb spare 256) (Some NodesShort) None ]
  by-conflict o e =
      let a = le-ltb 24 (height t) low in
      let b = le-ltb 24 (height (card_tree 𝓝 name t)) low_card in
      rw (a, b, ← read) (conflict-rows (occupied change there) (lacking change there) (ltb spare 256) o e)

first-of-four : (high a b few : Bool) → None ≡ first_of ((high, TreeTooHigh) ∷ (a, ReadingThere) ∷ (b, NoReading) ∷ (few, NodesShort) ∷ []) → (high ≡ false) × (few ≡ false)
first-of-four false false false false e = (refl, refl)
first-of-four true a b few e = absurd (let z : ◌≡◌ {A = ℕ} 0 1 = cc in omega arith)
first-of-four false true b few e = absurd (let z : ◌≡◌ {A = ℕ} 0 1 = cc in omega arith)
first-of-four false false true few e = absurd (let z : ◌≡◌ {A = ℕ} 0 1 = cc in omega arith)
first-of-four false false false true e = absurd (let z : ◌≡◌ {A = ℕ} 0 1 = cc in omega arith)

either-false : (a b : Bool) → (a || b) ≡ false → (a ≡ false) × (b ≡ false)
either-false false false e = (refl, refl)
either-false false true e = absurd (let z : ◌≡◌ {A = ℕ} 0 1 = cc in omega arith)
either-false true b e = absurd (let z : ◌≡◌ {A = ℕ} 0 1 = cc in omega arith)

-- ---- the entry

module _ (p : Pool) (ls : List (Option Record)) (place serial : ℕ) (r : Option Record) (is : r ≡ line_of ls place serial) (next : ℕ) (bytes : List ℕ) (measured : ℕ) (change : Change) where
  abbrev call : Call
  call = enters (record { place = place; serial = serial }) bytes measured change

  pub unseated : {K : Type 0} (𝓝 : Names K) → ((recorded node : ℕ) → state_in r ≡ Some (Sitting recorded node) → ⊥)
      → (s : Shown) → Shows 𝓝 p ls next s → (s' : Shown) × Shows 𝓝 p ls next s' × Step 𝓝 s call (refused NoSuchLine) s'
  unseated 𝓝 none-sits = refuses 𝓝 p ls next call NoSuchLine (λ s shows. rw (not-sitting p ls s.places shows.kept place serial r is none-sits))

  module _ (recorded node : ℕ) (state : state_in r ≡ Some (Sitting recorded node)) where
    here : (xs : List Place) (k : Kept p ls xs) → place_of xs place serial ≡ live serial (seat p ls place serial r is recorded node state xs k).stages (sitting recorded (seat p ls place serial r is recorded node state xs k).sheet)
    here = seat-here p ls place serial r is recorded node state

    abbrev pub sheet_tree : (xs : List Place) → Kept p ls xs → Tree
    sheet_tree xs k = (seat p ls place serial r is recorded node state xs k).sheet.tree

    pub sheet-carried : (xs : List Place) (k : Kept p ls xs) → Carries p node (sheet_tree xs k)
    sheet-carried xs k = held-carries p _ _ _ (sheet-first p ls place serial r is recorded node state xs k)

    pub sheet-sturdy : (xs : List Place) (k : Kept p ls xs) → SheetWith Balanced Filed (sheet_tree xs k)
    sheet-sturdy xs k =
        let at = seat p ls place serial r is recorded node state xs k in
        by-sturdy (sheet-prop at.sheet.tree) p ls xs k place at.within (live serial at.stages (sitting recorded at.sheet)) at.here (λ s. s.1)

    pub misnamed : {K : Type 0} (𝓝 : Names K) → (IsName bytes → ⊥)
        → (s : Shown) → Shows 𝓝 p ls next s → (s' : Shown) × Shows 𝓝 p ls next s' × Step 𝓝 s call (refused NameBroken) s'
    misnamed 𝓝 broken = refuses 𝓝 p ls next call NameBroken (λ s shows. rw (here s.places shows.kept, name-fails bytes broken))

    module _ (lawful : IsName bytes) where
      pub unreadable : {K : Type 0} (𝓝 : Names K) (why : Refusal) → (out_of_range change ≡ true) × (why ≡ ReadingOutOfRange)
          → (s : Shown) → Shows 𝓝 p ls next s → (s' : Shown) × Shows 𝓝 p ls next s' × Step 𝓝 s call (refused why) s'
      unreadable 𝓝 why out =
          refuses 𝓝 p ls next call why
          (λ s shows. (let past = out.0 in rw (here s.places shows.kept, name-passes bytes lawful, past)) ∙ ap Some (sym out.1))

      module _ (inside : out_of_range change ≡ false) where
        pub too-late : {K : Type 0} (𝓝 : Names K) → recorded < measured
            → (s : Shown) → Shows 𝓝 p ls next s → (s' : Shown) × Shows 𝓝 p ls next s' × Step 𝓝 s call (refused MeasuredLater) s'
        too-late 𝓝 late =
            refuses 𝓝 p ls next call MeasuredLater
            (λ s shows. rw (here s.places shows.kept, name-passes bytes lawful, inside, lt-ltb recorded measured late))

        module _ {K : Type 0} (𝓚 : Kind K) (named : Name → K) (called : K → Name) (timely : measured ≤ recorded) (at : Instant) (at-is : at.seconds ≡ measured) (name : K) (name-is : name ≡ named (name_of bytes)) where
          abbrev 𝓝 : Names K
          𝓝 = names_of 𝓚 named called

          abbrev refusal : Tree → Option Refusal
          refusal t = entry_refusal 𝓝 t name at change (length (memory_of p) - used_of p)

          sheet-ordered : (s : Shown) (shows : Shows 𝓝 p ls next s) → SheetWith (ByName 𝓝) ByTime (sheet_tree s.places shows.kept)
          sheet-ordered s shows =
              let seated = seat p ls place serial r is recorded node state s.places shows.kept in
              (subst (Ordered 𝓝) seated.here (All-get_or (Ordered 𝓝) s.places place free seated.within shows.ordered)).trees.1

          entry-declined : (s : Shown) (shows : Shows 𝓝 p ls next s) → declined 𝓝 s call ≡ refusal (sheet_tree s.places shows.kept)
          entry-declined s shows =
              let sheet = sheet_tree s.places shows.kept in
              let read : is_some (find instant_at earlier at (card_tree 𝓝 name sheet)) ≡ read_at 𝓝 name measured (sheet_of 𝓝 sheet) =
              subst (λ (m : ℕ). is_some (find instant_at earlier at (card_tree 𝓝 name sheet)) ≡ read_at 𝓝 name m (sheet_of 𝓝 sheet)) at-is (read_at_lem 𝓚 named called name at sheet (sheet-ordered s shows)) in
              let few : too_few s ≡ ltb (length (memory_of p) - used_of p) 256 = λ i. ltb (sym shows.nodes_is i - sym shows.used_is i) 256 in
              rw (here s.places shows.kept, name-passes bytes lawful, inside, le-ltb recorded measured timely, ← name-is, ← read, few)

          pub declines : (why : Refusal) → ((t : Tree) → Carries p node t → Some why ≡ refusal t)
              → (s : Shown) → Shows 𝓝 p ls next s → (s' : Shown) × Shows 𝓝 p ls next s' × Step 𝓝 s call (refused why) s'
          declines why found =
              refuses 𝓝 p ls next call why
              (λ s shows. entry-declined s shows ∙ sym (found _ (sheet-carried s.places shows.kept)))

          module _ (go : (t : Tree) → Carries p node t → None ≡ refusal t) where
            pub enterable : (xs : List Place) (k : Kept p ls xs) → length ls ≡ 64 → Enterable 𝓝 p node name
            enterable xs k sized =
                let t = sheet_tree xs k in
                let there = is_some (find instant_at earlier at (card_tree 𝓝 name t)) in
                let f = first-of-four (too_high t || too_high (card_tree 𝓝 name t)) (occupied change there) (lacking change there) (ltb (length (memory_of p) - used_of p) 256) (go t (sheet-carried xs k)) in
                let g = either-false (too_high t) (too_high (card_tree 𝓝 name t)) f.0 in
                record {
                  t = t;
                  others = _;
                  holds = sheet-first p ls place serial r is recorded node state xs k;
                  few = omega (arith, length-others xs place, length-places p ls xs k);
                  sturdy = sheet-sturdy xs k;
                  low = ltb-false 24 (height t) g.0;
                  low_card = ltb-false 24 (height (card_tree 𝓝 name t)) g.1;
                  room = omega (arith, ltb-false (length (memory_of p) - used_of p) 256 f.1);
                }

            module _ (sheet : ℕ) (p' : Pool) (ls' : List (Option Record)) (put : ls' ≡ set ls place (Some (record { serial = serial_in r; root = root_in r; state = Sitting recorded sheet })))
                (owned : (t : Tree) (hs : List Held) → Holds p (held node t ∷ hs) → Holds p' (held sheet (entered_tree 𝓝 name at change t) ∷ hs)) where
              module _ (xs : List Place) (k : Kept p ls xs) where
                abbrev pub seated : Sits xs place serial r recorded node
                seated = seat p ls place serial r is recorded node state xs k

                abbrev pub new : Held
                new = held sheet (entered_tree 𝓝 name at change (sheet_tree xs k))

                abbrev pub after-entry : Place
                after-entry = live serial (held (root_in r) (seat p ls place serial r is recorded node state xs k).stages.tree) (sitting recorded new)

                entry-put : ls' ≡ set ls place (record_of after-entry)
                entry-put = put ∙ ap (λ (z : Record). set ls place (Some z)) (λ i. record { serial = seated.serial-is i; root = root_in r; state = Sitting recorded sheet })

                entry-holds : Holds p' (held (root_in r) seated.stages.tree ∷ new ∷ others place xs)
                entry-holds = holds-swapped p' _ _ _ (owned _ _ (sheet-first p ls place serial r is recorded node state xs k))

                entry-sturdy : AllByRecursion Sturdy xs → Sturdy after-entry
                entry-sturdy all =
                    let x = subst Sturdy seated.here (All-get_or Sturdy xs place free seated.within all) in
                    (x.0, sturdy-entered 𝓝 name at change inside (sheet_tree xs k) x.1)

                pub kept-entered : Kept p' ls' (set xs place after-entry)
                kept-entered = kept-changed p ls xs k place seated.within p' ls' after-entry entry-put entry-holds entry-sturdy

              pub made : ((t : Tree) → Carries p node t → used_of p' ≤ used_of p + 3 * height t + 3 * height (card_tree 𝓝 name t) + 2) → length (memory_of p') ≡ length (memory_of p)
                  → (s : Shown) → Shows 𝓝 p ls next s → (s' : Shown) × Shows 𝓝 p' ls' next s' × Step 𝓝 s call done s'
              made grows size s shows =
                  let xs = s.places in
                  let k = shows.kept in
                  let at_place = seated xs k in
                  let t = sheet_tree xs k in
                  let before = subst (Ordered 𝓝) at_place.here (All-get_or (Ordered 𝓝) xs place free at_place.within shows.ordered) in
                  let ordered : AllByRecursion (Ordered 𝓝) xs → Ordered 𝓝 (after-entry xs k) = λ _.
                  record { trees = (before.trees.0, ordered-entered 𝓚 named called name at change t before.trees.1); later = before.later } in
                  let shown = shows-changed 𝓝 p ls next s shows place at_place.within p' ls' next s.next (after-entry xs k) shows.next_is (entry-put xs k) (entry-holds xs k) (entry-sturdy xs k) ordered size in
                  let found = here xs k in
                  let stages-are : held (root_in r) at_place.stages.tree ≡ at_place.stages = ap (λ (n : ℕ). held n at_place.stages.tree) at_place.root_is in
                  let contents : sheet_of 𝓝 (new xs k).tree ≡ entered 𝓝 (named (name_of bytes)) measured change (sheet_of 𝓝 t) =
                  sheet-entered-contents 𝓚 named called name at change t (sheet-ordered s shows) ∙ (λ i. entered 𝓝 (name-is i) (at-is i) change (sheet_of 𝓝 t)) in
                  let grown : used_of p' ≤ s.used + 3 * height t + 3 * height (card_tree 𝓝 (named (name_of bytes)) t) + 2 =
                  subst (λ (n : K). used_of p' ≤ s.used + 3 * height t + 3 * height (card_tree 𝓝 n t) + 2) name-is
                  (subst (λ (u : ℕ). used_of p' ≤ u + 3 * height t + 3 * height (card_tree 𝓝 name t) + 2) shows.used_is (grows t (sheet-carried xs k))) in (
                    _,
                    shown,
                    accepted 𝓝 s _ call done (entry-declined s shows ∙ sym (go t (sheet-carried xs k))) (
                      refl,
                      record {
                        sheet = new xs k;
                        used = used_of p';
                        contents = subst (λ (x : Place). sheet_of 𝓝 (new xs k).tree ≡ entered 𝓝 (named (name_of bytes)) measured change (sheet_of 𝓝 (sheet_at x).tree)) (sym found) contents;
                        grown = subst (λ (x : Place). used_of p' ≤ s.used + 3 * height (sheet_at x).tree + 3 * height (card_tree 𝓝 (named (name_of bytes)) (sheet_at x).tree) + 2) (sym found) grown;
                        after = λ i. record {
                          places = set xs place (live serial ((stages-are ∙ sym (ap stages_at found)) i) (sitting (sym (ap recorded_at found) i) (new xs k)));
                          next = s.next;
                          nodes = s.nodes;
                          used = used_of p';
                        };
                      },
                    ),
                  )
