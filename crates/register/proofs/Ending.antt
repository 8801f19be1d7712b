-- Committing and abandoning a sitting.
use Rattle.std.proofs.Common.{◌≡◌, ℕ, ◌+◌, ◌<◌, ◌≤◌, Bool, true, false, cond, List, [], ◌∷◌, ◌++◌, length, set, pos, Some, None, sym, refl, ap, ◌∙◌, subst, arith, le-ltb, lt-ltb, Option}
use Rattle.std.proofs.ByRecursion.{All-get_or}
use Rattle.std.specs.List.{AllByRecursion}
use Rattle.kinds.specs.declared.instant.Instant.{Instant}
use Rattle.pool.proofs.Pools.{held-carries}
use Rattle.pool.proofs.Reorder.{holds-swapped}
use Rattle.pool.specs.Held.{Carries, Held, Holds, held}
use Rattle.pool.specs.Sound.{memory_of, used_of}
use Rattle.pool.specs.Tree.{Tree}
use Rattle.pool.specs.declared.pool.Pool.{Pool}
use Rattle.tree.specs.Append.{Behind}
use Rattle.tree.specs.Insert.{compared, insert}
use Rattle.tree.specs.Insertable.{Insertable}
use Rattle.tree.specs.Shape.{height}
use Rattle.register.proofs.Changing.{Sits, apart-sitting, kept-changed, length-places, not-sitting, place-of, shows-changed, sits}
use Rattle.register.proofs.Filing.{sturdy-committed}
use Rattle.register.proofs.Growing.{ordered-committed}
use Rattle.register.proofs.Holding.{behind-line, stages-committed}
use Rattle.register.proofs.Owning.{length-others, others}
use Rattle.register.proofs.Standing.{line-balanced}
use Rattle.register.proofs.Telling.{accepted, holds-none, refuses}
use Rattle.register.specs.Calls.{Handle, abandons, commits, done, refused}
use Rattle.register.specs.Contents.{Names, earlier, instant_at, sheet_of, stages_of}
use Rattle.register.specs.Declined.{declined, too_few, too_high}
use Rattle.register.specs.Kept.{Kept}
use Rattle.register.specs.Places.{Place, free, is_sitting, live, none, place_of, recorded_at, resting, sheet_at, sitting, stages_at}
use Rattle.register.specs.Shapes.{Before, Ordered, Sturdy}
use Rattle.register.specs.Shown.{Shown, Shows, spare, with_used}
use Rattle.register.specs.Steps.{Step, becomes}
use Rattle.register.specs.Tables.{line_of, resting_record, root_in, state_in}
use Rattle.register.specs.Trees.{instant_words}
use Rattle.register.specs.declared.refusal.Refusal.TheVariants.{NoSuchLine, NodesShort, TreeTooHigh}
use Rattle.register.specs.declared.table.Record.{Record}
use Rattle.register.specs.declared.table.State.TheVariants.{Sitting}

-- the nodes that are free, as they are shown
pub spare-is : {K : Type 0} (𝓝 : Names K) (p : Pool) (ls : List (Option Record)) (next : ℕ) (s : Shown) → Shows 𝓝 p ls next s
    → (n : ℕ) → n + used_of p ≡ length (memory_of p) → spare s ≡ n
spare-is 𝓝 p ls next s shows n e = omega (arith, shows.nodes_is, shows.used_is)

module _ (p : Pool) (ls : List (Option Record)) (place serial : ℕ) (r : Option Record) (is : r ≡ line_of ls place serial) where
  abbrev handle : Handle
  handle = record { place = place; serial = serial }

  module _ (none-sits : (recorded node : ℕ) → state_in r ≡ Some (Sitting recorded node) → ⊥) {K : Type 0} (𝓝 : Names K) (next : ℕ) where
    pub unabandoned : (s : Shown) → Shows 𝓝 p ls next s → (s' : Shown) × Shows 𝓝 p ls next s' × Step 𝓝 s (abandons handle) (refused NoSuchLine) s'
    unabandoned = refuses 𝓝 p ls next (abandons handle) NoSuchLine (λ s shows. rw (not-sitting p ls s.places shows.kept place serial r is none-sits))

    pub uncommitted : (s : Shown) → Shows 𝓝 p ls next s → (s' : Shown) × Shows 𝓝 p ls next s' × Step 𝓝 s (commits handle) (refused NoSuchLine) s'
    uncommitted = refuses 𝓝 p ls next (commits handle) NoSuchLine (λ s shows. rw (not-sitting p ls s.places shows.kept place serial r is none-sits))

  module _ (recorded node : ℕ) (state : state_in r ≡ Some (Sitting recorded node)) where
    pub seat : (xs : List Place) (k : Kept p ls xs) → Sits xs place serial r recorded node
    seat xs k = sits p ls xs k place serial r is recorded node state

    pub seat-here : (xs : List Place) (k : Kept p ls xs) → place_of xs place serial ≡ live serial (seat xs k).stages (sitting recorded (seat xs k).sheet)
    seat-here xs k = let here = seat xs k in place-of xs place serial here.stages (sitting recorded here.sheet) here.here

    pub seat-holds : (xs : List Place) (k : Kept p ls xs) → Holds p (held (root_in r) (seat xs k).stages.tree ∷ held node (seat xs k).sheet.tree ∷ others place xs)
    seat-holds xs k = apart-sitting p ls xs k place serial r recorded node (seat xs k)

    pub sheet-first : (xs : List Place) (k : Kept p ls xs) → Holds p (held node (seat xs k).sheet.tree ∷ held (root_in r) (seat xs k).stages.tree ∷ others place xs)
    sheet-first xs k = holds-swapped p _ _ _ (seat-holds xs k)

    pub line-carried : (xs : List Place) (k : Kept p ls xs) → Carries p (root_in r) (seat xs k).stages.tree
    line-carried xs k = held-carries p _ _ _ (seat-holds xs k)

    -- ---- abandoning

    module _ (p' : Pool) (ls' : List (Option Record)) (put : ls' ≡ set ls place (Some (resting_record serial (root_in r))))
        (owned : (t : Tree) (hs : List Held) → Holds p (held node t ∷ hs) → Holds p' hs) where
      module _ (xs : List Place) (k : Kept p ls xs) where
        abbrev pub left : Place
        left = live serial (held (root_in r) (seat xs k).stages.tree) resting

        left-holds : Holds p' (held (root_in r) (seat xs k).stages.tree ∷ none ∷ others place xs)
        left-holds = holds-swapped p' _ _ _ (holds-none p' _ (owned _ _ (sheet-first xs k)))

        left-sturdy : AllByRecursion Sturdy xs → Sturdy left
        left-sturdy all = let here = seat xs k in ((subst Sturdy here.here (All-get_or Sturdy xs place free here.within all)).0, tt)

        pub kept-abandoned : Kept p' ls' (set xs place left)
        kept-abandoned = kept-changed p ls xs k place (seat xs k).within p' ls' left put left-holds left-sturdy

      pub abandoned : {K : Type 0} (𝓝 : Names K) (next : ℕ) → used_of p' ≤ used_of p → length (memory_of p') ≡ length (memory_of p)
          → (s : Shown) → Shows 𝓝 p ls next s → (s' : Shown) × Shows 𝓝 p' ls' next s' × Step 𝓝 s (abandons handle) done s'
      abandoned 𝓝 next fewer size s shows =
          let xs = s.places in
          let k = shows.kept in
          let here = seat xs k in
          let ordered : AllByRecursion (Ordered 𝓝) xs → Ordered 𝓝 (left xs k) = λ all.
          (let x = subst (Ordered 𝓝) here.here (All-get_or (Ordered 𝓝) xs place free here.within all) in record { trees = (x.trees.0, tt); later = tt }) in
          let shown = shows-changed 𝓝 p ls next s shows place here.within p' ls' next s.next (left xs k) shows.next_is put (left-holds xs k) (left-sturdy xs k) ordered size in
          let same : held (root_in r) here.stages.tree ≡ stages_at (place_of xs place serial) =
          ap (λ (n : ℕ). held n here.stages.tree) here.root_is ∙ sym (ap stages_at (seat-here xs k)) in
          let after : ◌≡◌ {A = Shown} _ (with_used (becomes s handle (stages_at (place_of xs place serial)) resting) (used_of p')) = λ i.
          record { places = set xs place (live serial (same i) resting); next = s.next; nodes = s.nodes; used = used_of p' } in
          let sat : is_sitting (place_of xs place serial) ≡ true = ap is_sitting (seat-here xs k) in
          (_, shown, accepted 𝓝 s _ (abandons handle) done (rw sat) (refl, record { used = used_of p'; fewer = rw (← shows.used_is) fewer; after = after }))

    -- ---- committing

    module _ {K : Type 0} (𝓝 : Names K) (next : ℕ) (tall : ℕ) (height_is : (t : Tree) → Carries p (root_in r) t → tall ≡ height t) where
      commit-declined : (s : Shown) (shows : Shows 𝓝 p ls next s) (high few : Bool) → too_high (seat s.places shows.kept).stages.tree ≡ high → too_few s ≡ few
          → declined 𝓝 s (commits handle) ≡ cond high (Some TreeTooHigh) (cond few (Some NodesShort) None)
      commit-declined s shows high few h f =
          let here = seat-here s.places shows.kept in
          rw (here, h, f)

      pub too-high : 24 < tall → (s : Shown) → Shows 𝓝 p ls next s → (s' : Shown) × Shows 𝓝 p ls next s' × Step 𝓝 s (commits handle) (refused TreeTooHigh) s'
      too-high high =
          refuses 𝓝 p ls next (commits handle) TreeTooHigh
          (λ s shows. commit-declined s shows true (too_few s) (lt-ltb 24 _ (omega (arith, height_is _ (line-carried s.places shows.kept)))) refl)

      pub too_few_lem : tall ≤ 24 → (n : ℕ) → n + used_of p ≡ length (memory_of p) → n < 256
          → (s : Shown) → Shows 𝓝 p ls next s → (s' : Shown) × Shows 𝓝 p ls next s' × Step 𝓝 s (commits handle) (refused NodesShort) s'
      too_few_lem low n e few =
          refuses 𝓝 p ls next (commits handle) NodesShort
          (λ s shows. commit-declined s shows false true (le-ltb 24 _ (omega (arith, height_is _ (line-carried s.places shows.kept)))) (lt-ltb _ 256 (omega (arith, spare-is 𝓝 p ls next s shows n e))))

    module _ (tall : ℕ) (height_is : (t : Tree) → Carries p (root_in r) t → tall ≡ height t) (low : tall ≤ 24) (n : ℕ) (e : n + used_of p ≡ length (memory_of p)) (room : 256 ≤ n) where
      pub insertable : (xs : List Place) (k : Kept p ls xs) → length ls ≡ 64 → Insertable p (root_in r) node
      insertable xs k sized =
          let here = seat xs k in
          let h = height_is _ (line-carried xs k) in
          record {
            t = here.stages.tree;
            nested = here.sheet.tree;
            others = others place xs;
            holds = seat-holds xs k;
            few = omega (arith, length-others xs place, length-places p ls xs k);
            balanced = line-balanced p ls xs k place here.within serial here.stages (sitting recorded here.sheet) here.here;
            low = omega (arith, h);
            room = omega (arith, h);
          }

      module _ (stage : Instant) (Stage-is : stage.seconds ≡ recorded) (root : ℕ) (p' : Pool) (ls' : List (Option Record)) (put : ls' ≡ set ls place (Some (resting_record serial root)))
          (owned : (t nested : Tree) (hs : List Held) → Holds p (held (root_in r) t ∷ held node nested ∷ hs)
          → Holds p' (held root (insert (compared instant_at earlier stage) (instant_words stage) (pos 0) nested t) ∷ hs)) where
        module _ (xs : List Place) (k : Kept p ls xs) where
          abbrev pub grown : Tree
          grown = insert (compared instant_at earlier stage) (instant_words stage) (pos 0) (seat xs k).sheet.tree (seat xs k).stages.tree

          abbrev pub ended : Place
          ended = live serial (held root grown) resting

          ended-holds : Holds p' (held root grown ∷ none ∷ others place xs)
          ended-holds = holds-swapped p' _ _ _ (holds-none p' _ (owned _ _ _ (seat-holds xs k)))

          ended-sturdy : AllByRecursion Sturdy xs → Sturdy ended
          ended-sturdy all =
              let here = seat xs k in
              let x = subst Sturdy here.here (All-get_or Sturdy xs place free here.within all) in
              (sturdy-committed stage here.sheet.tree here.stages.tree x.1 x.0, tt)

          pub kept-committed : Kept p' ls' (set xs place ended)
          kept-committed = kept-changed p ls xs k place (seat xs k).within p' ls' ended put ended-holds ended-sturdy

        pub committed : {K : Type 0} (𝓝 : Names K) (next : ℕ)
            → ((t : Tree) → Carries p (root_in r) t → Behind (compared instant_at earlier stage) t → used_of p' ≤ used_of p + height t + 1) → length (memory_of p') ≡ length (memory_of p)
            → (s : Shown) → Shows 𝓝 p ls next s → (s' : Shown) × Shows 𝓝 p' ls' next s' × Step 𝓝 s (commits handle) done s'
        committed 𝓝 next appended size s shows =
            let xs = s.places in
            let k = shows.kept in
            let here = seat xs k in
            let before = subst (Ordered 𝓝) here.here (All-get_or (Ordered 𝓝) xs place free here.within shows.ordered) in
            let later = subst (λ (m : ℕ). Before m here.stages.tree) (sym Stage-is) before.later in
            let ordered : AllByRecursion (Ordered 𝓝) xs → Ordered 𝓝 (ended xs k) = λ all.
            record { trees = (ordered-committed 𝓝 stage here.sheet.tree here.stages.tree before.trees.1 before.trees.0, tt); later = tt } in
            let shown = shows-changed 𝓝 p ls next s shows place here.within p' ls' next s.next (ended xs k) shows.next_is put (ended-holds xs k) (ended-sturdy xs k) ordered size in
            let found = seat-here xs k in
            let few = spare-is 𝓝 p ls next s shows n e in
            let go : declined 𝓝 s (commits handle) ≡ None =
            commit-declined 𝓝 next tall height_is s shows false false (le-ltb 24 _ (omega (arith, height_is _ (line-carried xs k)))) (le-ltb _ 256 (omega arith)) in
            let contents = stages-committed 𝓝 stage here.sheet.tree here.stages.tree later in
            let grows = appended _ (line-carried xs k) (behind-line stage here.stages.tree later) in
            let line : Held = held root (grown xs k) in
            let listed : stages_of 𝓝 line.tree ≡ stages_of 𝓝 here.stages.tree ++ (recorded, sheet_of 𝓝 here.sheet.tree) ∷ [] =
            subst (λ (m : ℕ). stages_of 𝓝 line.tree ≡ stages_of 𝓝 here.stages.tree ++ (m, sheet_of 𝓝 here.sheet.tree) ∷ []) Stage-is contents in (
              _,
              shown,
              accepted 𝓝 s _ (commits handle) done go (
                refl,
                record {
                  stages = line;
                  used = used_of p';
                  contents = subst (λ (x : Place). stages_of 𝓝 line.tree ≡ stages_of 𝓝 (stages_at x).tree ++ (recorded_at x, sheet_of 𝓝 (sheet_at x).tree) ∷ []) (sym found) listed;
                  grown = subst (λ (x : Place). used_of p' ≤ s.used + height (stages_at x).tree + 1) (sym found) (omega (arith, grows, shows.used_is));
                  after = refl;
                },
              ),
            )
