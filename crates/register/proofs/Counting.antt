-- The tally of a register, and the nodes that its lines own.
use Rattle.std.proofs.Common.{◌≡◌, ℕ, ◌+◌, List, [], ◌∷◌, length, map, sum_by, sym, refl, ap, ◌∙◌, subst, Option}
use Rattle.pool.proofs.Pools.{holds-in}
use Rattle.pool.specs.FreeList.{busy}
use Rattle.pool.specs.Held.{node_of}
use Rattle.pool.specs.Reached.{Accounted}
use Rattle.pool.specs.Sound.{memory_of, used_of}
use Rattle.pool.specs.declared.pool.Pool.{Pool}
use Rattle.register.proofs.Bounding.{memory-accounted}
use Rattle.register.proofs.Ending.{spare-is}
use Rattle.register.proofs.Keeping.{the_places}
use Rattle.register.proofs.Vacancies.{live-rows}
use Rattle.register.specs.Calls.{counted, tallies}
use Rattle.register.specs.Contents.{Names}
use Rattle.register.specs.Kept.{Kept}
use Rattle.register.specs.Places.{Place, free as vacant, live as lives, owners_of, record_of, resting, sheet_at, sitting, stages_at, stowed}
use Rattle.register.specs.Shown.{Shown, Shows}
use Rattle.register.specs.Steps.{Step}
use Rattle.register.specs.Tables.{live, root_in, roots_in, working_in}
use Rattle.register.specs.declared.table.Record.{Record}

pub counts : {K : Type 0} (𝓝 : Names K) (p : Pool) (ls : List (Option Record)) (next : ℕ) (s : Shown) → Shows 𝓝 p ls next s → (used free lines : ℕ)
    → used ≡ used_of p → free + used_of p ≡ length (memory_of p) → lines ≡ live ls
    → Step 𝓝 s tallies (counted (record { in_use = used; free = free; lines = lines })) s
counts 𝓝 p ls next s shows used free lines u f l = (
  (λ i. counted (record {
    in_use = (u ∙ shows.used_is) i;
    free = sym (spare-is 𝓝 p ls next s shows free f) i;
    lines = (l ∙ ap live shows.kept.rows ∙ live-rows s.places) i;
  })),
  refl,
)

-- ---- the nodes that the lines own

root-of : (x : Place) → root_in (record_of x) ≡ (stages_at x).node
root-of vacant = refl
root-of (lives serial stages doing) = refl

working-of : (x : Place) → working_in (record_of x) ≡ (sheet_at x).node
working-of vacant = refl
working-of (lives serial stages resting) = refl
working-of (lives serial stages (sitting recorded sheet)) = refl
working-of (lives serial stages (stowed letter)) = refl

roots-of : (xs : List Place) → roots_in (map record_of xs) ≡ map node_of (owners_of xs)
roots-of [] = refl
roots-of (x ∷ xs) = λ i. root-of x i ∷ working-of x i ∷ roots-of xs i

module _ (p : Pool) (ls : List (Option Record)) (h : ∥ ((xs : List Place) × Kept p ls xs) ∥₁) where
  held : (xs : List Place) × Kept p ls xs
  held = the_places p ls h

  pub lines-accounted : Accounted p (roots_in ls)
  lines-accounted =
      subst (Accounted p) (sym (ap roots_in held.1.rows ∙ roots-of held.0)) (memory-accounted p (owners_of held.0) held.1.holds)

  pub used-busy : used_of p ≡ sum_by busy (memory_of p)
  used-busy = (holds-in p (owners_of held.0) held.1.holds).sound.tallied
