-- Opening a line, and branching one off.
use Rattle.std.proofs.Common.{◌≡◌, ℕ, ◌+◌, true, false, not, ltb, List, [], ◌∷◌, length, set, is_some, Ok, Err, Option, unwrap_or, sym, refl, ap, ◌∙◌, subst, Some}
use Rattle.std.proofs.ByRecursion.{All-get_or}
use Rattle.std.specs.List.{AllByRecursion}
use Rattle.pool.proofs.Pools.{held-carries, holds-nothing}
use Rattle.pool.proofs.Reorder.{holds-swapped}
use Rattle.pool.specs.Held.{Carries, Held, Holds, held}
use Rattle.pool.specs.Sound.{memory_of, used_of}
use Rattle.pool.specs.Tree.{Tree, leaf}
use Rattle.pool.specs.declared.pool.Pool.{Pool}
use Rattle.register.proofs.Changing.{Rests, apart-resting, kept-apart, kept-changed, not-resting, place-of, rests, shows-changed}
use Rattle.register.proofs.Owning.{others, owners-apart-from}
use Rattle.register.proofs.Telling.{accepted, refuses}
use Rattle.register.proofs.Vacancies.{Vacancy, refusal_in, vacancy, vacancy-declined}
use Rattle.register.specs.Calls.{Answer, Handle, branches, handed, opens, refused}
use Rattle.register.specs.Contents.{Names}
use Rattle.register.specs.Declined.{declined}
use Rattle.register.specs.Kept.{Kept}
use Rattle.register.specs.Places.{Place, free, is_free, is_resting, live, none, owners_of, place_of, resting, sheet_at, stages_at}
use Rattle.register.specs.Refusals.{first_of}
use Rattle.register.specs.Shapes.{Ordered, Sturdy}
use Rattle.register.specs.Shown.{Shown, Shows, next_handle, with_line}
use Rattle.register.specs.Steps.{Step}
use Rattle.register.specs.Tables.{in_state, line_of, lowest, resting_record, root_in, vacancy_in}
use Rattle.register.specs.declared.refusal.Refusal.{Refusal}
use Rattle.register.specs.declared.refusal.Refusal.TheVariants.{LinesExhausted, NoSuchLine, SerialsExhausted}
use Rattle.register.specs.declared.table.Record.{Record}
use Rattle.register.specs.declared.table.State.TheVariants.{AtRest}

-- ---- a further line with these stages, at the lowest free place

module _ (p : Pool) (ls : List (Option Record)) (next place : ℕ) (found : Ok place ≡ vacancy_in ls next) (p' : Pool) (ls' : List (Option Record)) (stages : Held)
    (put : ls' ≡ set ls place (Some (resting_record next stages.node))) where
  pub kept-added : (xs : List Place) (k : Kept p ls xs) → Holds p' (stages ∷ none ∷ others place xs)
      → (AllByRecursion Sturdy xs → Sturdy (live next stages resting)) → Kept p' ls' (set xs place (live next stages resting))
  kept-added xs k holds sturdy =
      let v = vacancy ls xs next place k.rows found in
      kept-changed p ls xs k place v.within p' ls' (live next stages resting) put holds sturdy

  module _ {K : Type 0} (𝓝 : Names K) (s : Shown) (shows : Shows 𝓝 p ls next s) (holds : Holds p' (stages ∷ none ∷ others place s.places))
      (sturdy : AllByRecursion Sturdy s.places → Sturdy (live next stages resting)) (ordered : AllByRecursion (Ordered 𝓝) s.places → Ordered 𝓝 (live next stages resting))
      (size : length (memory_of p') ≡ length (memory_of p)) (used : used_of p' ≡ used_of p) where
    v : Vacancy s.places next place
    v = vacancy ls s.places next place shows.kept.rows found

    abbrev pub after : Shown
    after = record { places = set s.places place (live next stages resting); next = next + 1; nodes = s.nodes; used = used_of p' }

    pub shows-added : Shows 𝓝 p' ls' (next + 1) after
    shows-added =
        shows-changed 𝓝 p ls next s shows place v.within p' ls' (next + 1) (next + 1) (live next stages resting) refl put holds sturdy ordered size

    place_is : place ≡ (next_handle s).place
    place_is = ap (λ (o : Option ℕ). unwrap_or o 0) (sym v.lowest-is)

    pub after_is : after ≡ with_line s stages
    after_is = λ i. record {
      places = set s.places (place_is i) (live (shows.next_is i) stages resting);
      next = shows.next_is i + 1;
      nodes = s.nodes;
      used = (used ∙ shows.used_is) i;
    }

    pub handed-is : handed (record { place = place; serial = next }) ≡ handed (next_handle s)
    handed-is = λ i. handed (record { place = place_is i; serial = shows.next_is i })

module _ (p : Pool) (ls : List (Option Record)) (next : ℕ) where
  further-declined : {K : Type 0} (𝓝 : Names K) (s : Shown) → Shows 𝓝 p ls next s
      → first_of ((not (is_some (lowest is_free s.places)), LinesExhausted) ∷ (ltb 4294967294 s.next, SerialsExhausted) ∷ []) ≡ refusal_in (vacancy_in ls next)
  further-declined 𝓝 s shows =
      vacancy-declined ls s.places s.next shows.kept.rows ∙ ap (λ (n : ℕ). refusal_in (vacancy_in ls n)) (sym shows.next_is)

  -- ---- opening

  pub unopened : {K : Type 0} (𝓝 : Names K) (why : Refusal) → Err why ≡ vacancy_in ls next
      → (s : Shown) → Shows 𝓝 p ls next s → (s' : Shown) × Shows 𝓝 p ls next s' × Step 𝓝 s opens (refused why) s'
  unopened 𝓝 why e = refuses 𝓝 p ls next opens why (λ s shows. further-declined 𝓝 s shows ∙ ap refusal_in (sym e))

  module _ (place : ℕ) (found : Ok place ≡ vacancy_in ls next) (ls' : List (Option Record)) (put : ls' ≡ set ls place (Some (resting_record next 0))) where
    vacant-holds : (xs : List Place) (k : Kept p ls xs) → Holds p (none ∷ none ∷ others place xs)
    vacant-holds xs k = let v = vacancy ls xs next place k.rows found in kept-apart p ls xs k place v.within free v.here

    pub kept-opened : (xs : List Place) (k : Kept p ls xs) → Kept p ls' (set xs place (live next none resting))
    kept-opened xs k = kept-added p ls next place found p ls' none put xs k (vacant-holds xs k) (λ _. (record { line = tt; sheets = tt }, tt))

    pub opened : {K : Type 0} (𝓝 : Names K) (a : Answer) → a ≡ handed (record { place = place; serial = next }) → (s : Shown) → Shows 𝓝 p ls next s
        → (s' : Shown) × Shows 𝓝 p ls' (next + 1) s' × Step 𝓝 s opens a s'
    opened 𝓝 a is s shows =
        let empty : AllByRecursion (Ordered 𝓝) s.places → Ordered 𝓝 (live next none resting) = λ _. record { trees = (record { line = tt; sheets = tt }, tt); later = tt } in
        let sturdy : AllByRecursion Sturdy s.places → Sturdy (live next none resting) = λ _. (record { line = tt; sheets = tt }, tt) in
        let holds = vacant-holds s.places shows.kept in (
          after p ls next place found p ls' none put 𝓝 s shows holds sturdy empty refl refl,
          shows-added p ls next place found p ls' none put 𝓝 s shows holds sturdy empty refl refl,
          accepted 𝓝 s _ opens _ (further-declined 𝓝 s shows ∙ ap refusal_in (sym found))
              (is ∙ handed-is p ls next place found p ls' none put 𝓝 s shows holds sturdy empty refl refl, after_is p ls next place found p ls' none put 𝓝 s shows holds sturdy empty refl refl),
        )

-- ---- branching

module _ (p : Pool) (ls : List (Option Record)) (place serial : ℕ) (r : Option Record) (is : r ≡ line_of ls place serial) (next : ℕ) where
  abbrev handle : Handle
  handle = record { place = place; serial = serial }

  -- no line at rest has the handle
  pub unbranched : {K : Type 0} (𝓝 : Names K) → in_state AtRest r ≡ false
      → (s : Shown) → Shows 𝓝 p ls next s → (s' : Shown) × Shows 𝓝 p ls next s' × Step 𝓝 s (branches handle) (refused NoSuchLine) s'
  unbranched 𝓝 not_at =
      refuses 𝓝 p ls next (branches handle) NoSuchLine
      (λ s shows. rw (not-resting p ls s.places shows.kept place serial r is not_at))

  module _ (rest : in_state AtRest r ≡ true) where
    at_rest : (xs : List Place) (k : Kept p ls xs) → Rests xs place serial r
    at_rest xs k = rests p ls xs k place serial r is rest

    branch-declined : {K : Type 0} (𝓝 : Names K) (s : Shown) → Shows 𝓝 p ls next s → declined 𝓝 s (branches handle) ≡ refusal_in (vacancy_in ls next)
    branch-declined 𝓝 s shows =
        let at = at_rest s.places shows.kept in
        let here : is_resting (place_of s.places place serial) ≡ true = ap is_resting (place-of s.places place serial at.stages resting at.here) in
        rw here (further-declined p ls next 𝓝 s shows)

    pub crowded : {K : Type 0} (𝓝 : Names K) (why : Refusal) → Err why ≡ vacancy_in ls next
        → (s : Shown) → Shows 𝓝 p ls next s → (s' : Shown) × Shows 𝓝 p ls next s' × Step 𝓝 s (branches handle) (refused why) s'
    crowded 𝓝 why e = refuses 𝓝 p ls next (branches handle) why (λ s shows. branch-declined 𝓝 s shows ∙ ap refusal_in (sym e))

    -- the root can have one owner more
    pub retainable : (xs : List Place) (k : Kept p ls xs) → (t : Tree) × Carries p (root_in r) t
    retainable xs k = let at = at_rest xs k in (_, held-carries p _ _ _ (apart-resting p ls xs k place serial r at))

    module _ (new : ℕ) (found : Ok new ≡ vacancy_in ls next) (p' : Pool) (ls' : List (Option Record)) (put : ls' ≡ set ls new (Some (resting_record next (root_in r))))
        (owned : (t : Tree) (hs : List Held) → Holds p hs → Carries p (root_in r) t → Holds p' (held (root_in r) t ∷ hs)) where
      module _ (xs : List Place) (k : Kept p ls xs) where
        pub shared : Rests xs place serial r
        shared = at_rest xs k

        shared-holds : Holds p' (held (root_in r) shared.stages.tree ∷ none ∷ others new xs)
        shared-holds =
            let v = vacancy ls xs next new k.rows found in
            let root = held (root_in r) shared.stages.tree in
            let more = owned shared.stages.tree (owners_of xs) k.holds (held-carries p _ _ _ (apart-resting p ls xs k place serial r shared)) in
            let apart = owners-apart-from p' root xs new v.within more in
            let vacant : Holds p' (none ∷ none ∷ root ∷ others new xs) =
            subst (λ (x : Place). Holds p' (sheet_at x ∷ stages_at x ∷ root ∷ others new xs)) v.here apart in
            holds-swapped p' none root (others new xs) (holds-nothing p' 0 leaf _ refl vacant)

        -- the line's trees, as they are for the new line
        line-sturdy : AllByRecursion Sturdy xs → Sturdy (live next (held (root_in r) shared.stages.tree) resting)
        line-sturdy all =
            let x = subst Sturdy shared.here (All-get_or Sturdy xs place free shared.within all) in (x.0, tt)

        pub kept-branched : Kept p' ls' (set xs new (live next (held (root_in r) shared.stages.tree) resting))
        kept-branched = kept-added p ls next new found p' ls' (held (root_in r) shared.stages.tree) put xs k shared-holds line-sturdy

      pub branched : {K : Type 0} (𝓝 : Names K) (a : Answer) → a ≡ handed (record { place = new; serial = next })
          → length (memory_of p') ≡ length (memory_of p) → used_of p' ≡ used_of p
          → (s : Shown) → Shows 𝓝 p ls next s → (s' : Shown) × Shows 𝓝 p' ls' (next + 1) s' × Step 𝓝 s (branches handle) a s'
      branched 𝓝 a a-is size used s shows =
          let xs = s.places in
          let k = shows.kept in
          let at = shared xs k in
          let root = held (root_in r) at.stages.tree in
          let ordered : AllByRecursion (Ordered 𝓝) xs → Ordered 𝓝 (live next root resting) = λ all.
          (let x = subst (Ordered 𝓝) at.here (All-get_or (Ordered 𝓝) xs place free at.within all) in record { trees = (x.trees.0, tt); later = tt }) in
          let same : root ≡ stages_at (place_of xs place serial) =
          ap (λ (n : ℕ). held n at.stages.tree) at.root_is ∙ sym (ap stages_at (place-of xs place serial at.stages resting at.here)) in
          let h = shared-holds xs k in
          let st = line-sturdy xs k in (
            after p ls next new found p' ls' root put 𝓝 s shows h st ordered size used,
            shows-added p ls next new found p' ls' root put 𝓝 s shows h st ordered size used,
            accepted 𝓝 s _ (branches handle) a (branch-declined 𝓝 s shows ∙ ap refusal_in (sym found))
                (a-is ∙ handed-is p ls next new found p' ls' root put 𝓝 s shows h st ordered size used, after_is p ls next new found p' ls' root put 𝓝 s shows h st ordered size used ∙ ap (with_line s) same),
          )
