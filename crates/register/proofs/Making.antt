-- A register newly made.
use Rattle.std.proofs.Common.{◌≡◌, ℕ, zero, suc, List, [], ◌∷◌, length, replicate, refl, Option}
use Rattle.std.specs.List.{AllByRecursion}
use Rattle.pool.specs.Held.{Holds}
use Rattle.pool.specs.Sound.{memory_of, used_of}
use Rattle.pool.specs.declared.pool.Pool.{Pool}
use Rattle.register.proofs.Telling.{holds-none}
use Rattle.register.specs.Contents.{Names}
use Rattle.register.specs.Kept.{Kept}
use Rattle.register.specs.Places.{Place, free, none, owners_of}
use Rattle.register.specs.Shapes.{Ordered, Sturdy}
use Rattle.register.specs.Shown.{Shows, newly_made}
use Rattle.register.specs.Tables.{all_free}
use Rattle.register.specs.declared.table.Record.{Record}

all-free : (P : Place → Type 0) → P free → (n : ℕ) → AllByRecursion P (replicate n free)
all-free P here zero = tt
all-free P here (suc n) = (here, all-free P here n)

free-holds : (p : Pool) → Holds p [] → (n : ℕ) → Holds p (owners_of (replicate n free))
free-holds p h zero = h
free-holds p h (suc n) = holds-none p (none ∷ owners_of (replicate n free)) (holds-none p (owners_of (replicate n free)) (free-holds p h n))

module _ (p : Pool) (ls : List (Option Record)) (made : ls ≡ all_free) (holds : Holds p []) where
  pub kept_new : Kept p ls (replicate 64 free)
  kept_new = record { rows = made; holds = free-holds p holds 64; sturdy = ∣ all-free Sturdy tt 64 ∣₁ }

  pub shows-new : {K : Type 0} (𝓝 : Names K) (first nodes : ℕ) → length (memory_of p) ≡ nodes → used_of p ≡ 0 → Shows 𝓝 p ls first (newly_made nodes first)
  shows-new 𝓝 first nodes size used =
      record { kept = kept_new; next_is = refl; nodes_is = size; used_is = used; ordered = all-free (Ordered 𝓝) (record { trees = tt; later = tt }) 64 }
