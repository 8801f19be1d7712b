-- Retiring a line.
use Rattle.std.proofs.Common.{◌≡◌, ℕ, ◌≤◌, true, false, cond, not, List, ◌∷◌, length, set, Some, None, refl, ap, Option}
use Rattle.pool.specs.Held.{Held, Holds, held}
use Rattle.pool.specs.Sound.{memory_of, used_of}
use Rattle.pool.specs.Tree.{Tree}
use Rattle.pool.specs.declared.pool.Pool.{Pool}
use Rattle.register.proofs.Changing.{Rests, apart-resting, kept-changed, not-resting, place-of, rests, shows-changed}
use Rattle.register.proofs.Owning.{others}
use Rattle.register.proofs.Telling.{accepted, holds-none, refuses}
use Rattle.register.specs.Calls.{Handle, done, refused, retires}
use Rattle.register.specs.Contents.{Names}
use Rattle.register.specs.Declined.{declined}
use Rattle.register.specs.Kept.{Kept}
use Rattle.register.specs.Places.{Place, free, is_resting, none, place_of, resting}
use Rattle.register.specs.Shown.{Shown, Shows, with_place, with_used}
use Rattle.register.specs.Steps.{Step}
use Rattle.register.specs.Tables.{in_state, line_of, root_in}
use Rattle.register.specs.declared.refusal.Refusal.TheVariants.{NoSuchLine}
use Rattle.register.specs.declared.table.Record.{Record}
use Rattle.register.specs.declared.table.State.TheVariants.{AtRest}

module _ (p : Pool) (ls : List (Option Record)) (place serial : ℕ) (r : Option Record) (is : r ≡ line_of ls place serial) where
  abbrev handle : Handle
  handle = record { place = place; serial = serial }

  pub unretired : {K : Type 0} (𝓝 : Names K) (next : ℕ) → in_state AtRest r ≡ false
      → (s : Shown) → Shows 𝓝 p ls next s → (s' : Shown) × Shows 𝓝 p ls next s' × Step 𝓝 s (retires handle) (refused NoSuchLine) s'
  unretired 𝓝 next not_at =
      refuses 𝓝 p ls next (retires handle) NoSuchLine
      (λ s shows. ap (λ b. cond (not b) (Some NoSuchLine) None) (not-resting p ls s.places shows.kept place serial r is not_at))

  module _ (p' : Pool) (ls' : List (Option Record)) (rest : in_state AtRest r ≡ true)
      (owned : (t : Tree) (hs : List Held) → Holds p (held (root_in r) t ∷ hs) → Holds p' hs) (put : ls' ≡ set ls place None) where
    left : (xs : List Place) (k : Kept p ls xs) (at : Rests xs place serial r) → Holds p' (none ∷ none ∷ others place xs)
    left xs k at = holds-none p' _ (owned at.stages.tree _ (apart-resting p ls xs k place serial r at))

    pub kept-retired : (xs : List Place) (k : Kept p ls xs) → Kept p' ls' (set xs place free)
    kept-retired xs k =
        let at = rests p ls xs k place serial r is rest in
        kept-changed p ls xs k place at.within p' ls' free put (left xs k at) (λ _. tt)

    pub retired : {K : Type 0} (𝓝 : Names K) (next : ℕ) → used_of p' ≤ used_of p → length (memory_of p') ≡ length (memory_of p)
        → (s : Shown) → Shows 𝓝 p ls next s → (s' : Shown) × Shows 𝓝 p' ls' next s' × Step 𝓝 s (retires handle) done s'
    retired 𝓝 next fewer size s shows =
        let at = rests p ls s.places shows.kept place serial r is rest in
        let s' : Shown = with_used (with_place s place free) (used_of p') in
        let here : is_resting (place_of s.places place serial) ≡ true =
        ap is_resting (place-of s.places place serial at.stages resting at.here) in
        let go : declined 𝓝 s (retires handle) ≡ None = ap (λ b. cond (not b) (Some NoSuchLine) None) here in
        let shows' = shows-changed 𝓝 p ls next s shows place at.within p' ls' next s.next free shows.next_is put (left s.places shows.kept at) (λ _. tt) (λ _. record { trees = tt; later = tt }) size in
        (s', shows', accepted 𝓝 s s' (retires handle) done go (refl, record { used = used_of p'; fewer = rw (← shows.used_is) fewer; after = refl }))
