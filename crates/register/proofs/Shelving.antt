-- Stowing a line on a shelf, and fetching it.
use Rattle.std.proofs.Common.{◌≡◌, ℕ, ◌<◌, true, false, List, ◌∷◌, length, get_or, set, Some, None, Option, unwrap_or, sym, refl, ap, ◌∙◌, subst}
use Rattle.std.proofs.ByRecursion.{All-get_or}
use Rattle.std.specs.List.{AllByRecursion}
use Rattle.pool.specs.Held.{Held, Holds}
use Rattle.pool.specs.declared.pool.Pool.{Pool}
use Rattle.register.proofs.Changing.{Rests, kept-apart, kept-changed, place-of, rests, shows-changed, state-at}
use Rattle.register.proofs.Handles.{stowable-rests}
use Rattle.register.proofs.Keeping.{record-at}
use Rattle.register.proofs.Owning.{others}
use Rattle.register.proofs.Telling.{accepted, refuses}
use Rattle.register.proofs.Vacancies.{is-stowed, lowest-found, lowest-stowed}
use Rattle.register.specs.Calls.{Answer, Handle, done, fetches, handed, refused, stows}
use Rattle.register.specs.Contents.{Names}
use Rattle.register.specs.Declined.{declined}
use Rattle.register.specs.Kept.{Kept}
use Rattle.register.specs.Places.{Place, free, is_stowed, live, none, place_of, record_of, resting, serial_at, stages_at, stowed}
use Rattle.register.specs.Shapes.{Ordered, Sturdy}
use Rattle.register.specs.Shown.{Shown, Shows}
use Rattle.register.specs.Steps.{Step, becomes, on_shelf}
use Rattle.register.specs.Tables.{in_state, is_letter, line_of, lowest, resting_record, root_in, serial_in, stow_refusal}
use Rattle.register.specs.declared.refusal.Refusal.{Refusal}
use Rattle.register.specs.declared.refusal.Refusal.TheVariants.{NotAShelf, ShelfEmpty}
use Rattle.register.specs.declared.table.Record.{Record}
use Rattle.register.specs.declared.table.State.TheVariants.{AtRest, Stowed}

-- ---- stowing

module _ (p : Pool) (ls : List (Option Record)) (place serial : ℕ) (r : Option Record) (is : r ≡ line_of ls place serial) (letter : ℕ) where
  abbrev handle : Handle
  handle = record { place = place; serial = serial }

  stow-declined : {K : Type 0} (𝓝 : Names K) (next : ℕ) (s : Shown) → Shows 𝓝 p ls next s → declined 𝓝 s (stows handle letter) ≡ stow_refusal ls r letter
  stow-declined 𝓝 next s shows =
      let state = state-at p ls s.places shows.kept place serial r is in
      let shelf = lowest-stowed letter ls s.places shows.kept.rows in
      rw (state, shelf)

  pub unstowed : {K : Type 0} (𝓝 : Names K) (next : ℕ) (why : Refusal) → Some why ≡ stow_refusal ls r letter
      → (s : Shown) → Shows 𝓝 p ls next s → (s' : Shown) × Shows 𝓝 p ls next s' × Step 𝓝 s (stows handle letter) (refused why) s'
  unstowed 𝓝 next why e = refuses 𝓝 p ls next (stows handle letter) why (λ s shows. stow-declined 𝓝 next s shows ∙ sym e)

  module _ (free-to : None ≡ stow_refusal ls r letter) (ls' : List (Option Record))
      (put : ls' ≡ set ls place (Some (record { serial = serial_in r; root = root_in r; state = Stowed letter }))) where
    resting-state : in_state AtRest r ≡ true
    resting-state = stowable-rests ls r letter free-to

    at_rest : (xs : List Place) (k : Kept p ls xs) → Rests xs place serial r
    at_rest xs k = rests p ls xs k place serial r is resting-state

    put_is : (xs : List Place) (k : Kept p ls xs) → ls' ≡ set ls place (record_of (live serial (at_rest xs k).stages (stowed letter)))
    put_is xs k =
        let at = at_rest xs k in
        put ∙ ap (λ (z : Record). set ls place (Some z)) (λ i. record { serial = at.serial-is i; root = at.root_is i; state = Stowed letter })

    stow-holds : (xs : List Place) (k : Kept p ls xs) → Holds p ((at_rest xs k).stages ∷ none ∷ others place xs)
    stow-holds xs k = let at = at_rest xs k in kept-apart p ls xs k place at.within (live serial at.stages resting) at.here

    line-sturdy : (xs : List Place) (k : Kept p ls xs) → AllByRecursion Sturdy xs → Sturdy (live serial (at_rest xs k).stages (stowed letter))
    line-sturdy xs k all = let at = at_rest xs k in ((subst Sturdy at.here (All-get_or Sturdy xs place free at.within all)).0, tt)

    pub kept-stowed : (xs : List Place) (k : Kept p ls xs) → (ys : List Place) × Kept p ls' ys
    kept-stowed xs k =
        let at = at_rest xs k in
        (_, kept-changed p ls xs k place at.within p ls' (live serial at.stages (stowed letter)) (put_is xs k) (stow-holds xs k) (line-sturdy xs k))

    pub stowed-on : {K : Type 0} (𝓝 : Names K) (next : ℕ) (s : Shown) → Shows 𝓝 p ls next s
        → (s' : Shown) × Shows 𝓝 p ls' next s' × Step 𝓝 s (stows handle letter) done s'
    stowed-on 𝓝 next s shows =
        let xs = s.places in
        let k = shows.kept in
        let at = at_rest xs k in
        let ordered : AllByRecursion (Ordered 𝓝) xs → Ordered 𝓝 (live serial at.stages (stowed letter)) = λ all.
        (let x = subst (Ordered 𝓝) at.here (All-get_or (Ordered 𝓝) xs place free at.within all) in record { trees = (x.trees.0, tt); later = tt }) in
        let shown = shows-changed 𝓝 p ls next s shows place at.within p ls' next s.next (live serial at.stages (stowed letter)) shows.next_is (put_is xs k) (stow-holds xs k) (line-sturdy xs k) ordered refl in
        let same : at.stages ≡ stages_at (place_of xs place serial) = sym (ap stages_at (place-of xs place serial at.stages resting at.here)) in
        let after : ◌≡◌ {A = Shown} _ (becomes s handle (stages_at (place_of xs place serial)) (stowed letter)) = λ i.
        record { places = set xs place (live serial (same i) (stowed letter)); next = s.next; nodes = s.nodes; used = shows.used_is i } in
        (_, shown, accepted 𝓝 s _ (stows handle letter) done (stow-declined 𝓝 next s shows ∙ sym free-to) (refl, after))

-- ---- fetching

module _ (p : Pool) (ls : List (Option Record)) (letter : ℕ) where
  pub no-shelf : {K : Type 0} (𝓝 : Names K) (next : ℕ) → is_letter letter ≡ false
      → (s : Shown) → Shows 𝓝 p ls next s → (s' : Shown) × Shows 𝓝 p ls next s' × Step 𝓝 s (fetches letter) (refused NotAShelf) s'
  no-shelf 𝓝 next e = refuses 𝓝 p ls next (fetches letter) NotAShelf (λ s shows. rw e)

  pub empty-shelf : {K : Type 0} (𝓝 : Names K) (next : ℕ) → is_letter letter ≡ true → None ≡ lowest (in_state (Stowed letter)) ls
      → (s : Shown) → Shows 𝓝 p ls next s → (s' : Shown) × Shows 𝓝 p ls next s' × Step 𝓝 s (fetches letter) (refused ShelfEmpty) s'
  empty-shelf 𝓝 next e none-there =
      refuses 𝓝 p ls next (fetches letter) ShelfEmpty
      (λ s shows. let f : lowest (is_stowed letter) s.places ≡ None = sym (lowest-stowed letter ls s.places shows.kept.rows) ∙ sym none-there in rw (e, f))

  module _ (place : ℕ) (found : Some place ≡ lowest (in_state (Stowed letter)) ls) (r : Record) (is : get_or ls place None ≡ Some r) (ls' : List (Option Record))
      (put : ls' ≡ set ls place (Some (resting_record r.serial r.root))) where
    -- the line on the shelf
    record Lies (xs : List Place) : Type 0 where
      pub serial : ℕ
      pub stages : Held
      pub here : get_or xs place free ≡ live serial stages (stowed letter)
      pub within : place < length xs
      pub first : lowest (is_stowed letter) xs ≡ Some place

    lies : (xs : List Place) (k : Kept p ls xs) → Lies xs
    lies xs k =
        let first = sym (lowest-stowed letter ls xs k.rows) ∙ sym found in
        let f = lowest-found (is_stowed letter) free xs place first in
        let (n, h, e) = is-stowed letter (get_or xs place free) f.1 in
        record { serial = n; stages = h; here = e; within = f.0; first = first }

    record_is : (xs : List Place) (k : Kept p ls xs) → Some r ≡ Some (record { serial = (lies xs k).serial; root = (lies xs k).stages.node; state = Stowed letter })
    record_is xs k = sym is ∙ ap (λ (rs : List (Option Record)). get_or rs place None) k.rows ∙ record-at xs place ∙ ap record_of (lies xs k).here

    fetch-put : (xs : List Place) (k : Kept p ls xs) → ls' ≡ set ls place (record_of (live (lies xs k).serial (lies xs k).stages resting))
    fetch-put xs k = put ∙ ap (λ (z : Option Record). set ls place (Some (resting_record (serial_in z) (root_in z)))) (record_is xs k)

    fetch-holds : (xs : List Place) (k : Kept p ls xs) → Holds p ((lies xs k).stages ∷ none ∷ others place xs)
    fetch-holds xs k = let at = lies xs k in kept-apart p ls xs k place at.within (live at.serial at.stages (stowed letter)) at.here

    fetch-sturdy : (xs : List Place) (k : Kept p ls xs) → AllByRecursion Sturdy xs → Sturdy (live (lies xs k).serial (lies xs k).stages resting)
    fetch-sturdy xs k all = let at = lies xs k in ((subst Sturdy at.here (All-get_or Sturdy xs place free at.within all)).0, tt)

    pub kept-fetched : (xs : List Place) (k : Kept p ls xs) → (ys : List Place) × Kept p ls' ys
    kept-fetched xs k =
        let at = lies xs k in
        (_, kept-changed p ls xs k place at.within p ls' (live at.serial at.stages resting) (fetch-put xs k) (fetch-holds xs k) (fetch-sturdy xs k))

    pub fetched : {K : Type 0} (𝓝 : Names K) (next : ℕ) → is_letter letter ≡ true → (a : Answer) → a ≡ handed (record { place = place; serial = r.serial })
        → (s : Shown) → Shows 𝓝 p ls next s → (s' : Shown) × Shows 𝓝 p ls' next s' × Step 𝓝 s (fetches letter) a s'
    fetched 𝓝 next letter-is a a-is s shows =
        let xs = s.places in
        let k = shows.kept in
        let at = lies xs k in
        let ordered : AllByRecursion (Ordered 𝓝) xs → Ordered 𝓝 (live at.serial at.stages resting) = λ all.
        (let x = subst (Ordered 𝓝) at.here (All-get_or (Ordered 𝓝) xs place free at.within all) in record { trees = (x.trees.0, tt); later = tt }) in
        let shown = shows-changed 𝓝 p ls next s shows place at.within p ls' next s.next (live at.serial at.stages resting) shows.next_is (fetch-put xs k) (fetch-holds xs k) (fetch-sturdy xs k) ordered refl in
        let place_is : place ≡ (on_shelf s letter).place = ap (λ (o : Option ℕ). unwrap_or o 0) (sym at.first) in
        let serial-is : at.serial ≡ (on_shelf s letter).serial =
        sym (ap serial_at at.here) ∙ ap (λ (i : ℕ). serial_at (get_or xs i free)) place_is in
        let found_at : place_of xs place at.serial ≡ live at.serial at.stages (stowed letter) = place-of xs place at.serial at.stages (stowed letter) at.here in
        let same : at.stages ≡ stages_at (place_of xs (on_shelf s letter).place (on_shelf s letter).serial) =
        sym (ap stages_at found_at) ∙ (λ i. stages_at (place_of xs (place_is i) (serial-is i))) in
        let after : ◌≡◌ {A = Shown} _ (becomes s (on_shelf s letter) (stages_at (place_of xs (on_shelf s letter).place (on_shelf s letter).serial)) resting) = λ i.
        record { places = set xs (place_is i) (live (serial-is i) (same i) resting); next = s.next; nodes = s.nodes; used = shows.used_is i } in
        let go : declined 𝓝 s (fetches letter) ≡ None = let f = at.first in rw (letter-is, f) in
        let handle-is : handed (record { place = place; serial = r.serial }) ≡ handed (on_shelf s letter) = λ i.
        handed (record { place = place_is i; serial = (ap serial_in (record_is xs k) ∙ serial-is) i }) in
        (_, shown, accepted 𝓝 s _ (fetches letter) a go (a-is ∙ handle-is, after))
