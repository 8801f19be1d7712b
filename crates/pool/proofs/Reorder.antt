-- What a pool holds does not depend on the order of its outside owners.
use Rattle.std.proofs.Common.{◌≡◌, ℕ, List, [], ◌∷◌, ◌++◌, map, sum_by, sym, refl, ◌∙◌, arith}
use Rattle.std.proofs.lemmas.List.Sorted.{sum_by-IsPermutation}
use Rattle.std.proofs.ByRecursion.{all_shuffled}
use Rattle.std.proofs.lemmas.List.Sums.{sum_by-cons}
use Rattle.std.specs.List.Sorted.{IsPermutation}
use Rattle.pool.proofs.Pools.{sound-reowned}
use Rattle.pool.specs.Held.{Carried, Held, Holds, node_of}
use Rattle.pool.specs.Owners.{same, times}
use Rattle.pool.specs.Sound.{Sound, memory_of}
use Rattle.pool.specs.declared.pool.Pool.{Pool}

pub holds-sound : (p : Pool) (hs : List Held) → Holds p hs → Sound p (map node_of hs)
unfolding Holds Sound
holds-sound p hs h = h.sound

-- a caller gives the counts by `λ m. omega arith`, and the trees by their places
pub holds-reordered : (p : Pool) (old new : List Held) → ((m : ℕ) → times m (map node_of new) ≡ times m (map node_of old))
    → (Carried (memory_of p) old → Carried (memory_of p) new) → Holds p old → Holds p new
unfolding Holds
holds-reordered p old new e c h =
    record { sound = sound-reowned _ _ _ (map node_of old) (map node_of new) (λ n _. e n) h.sound; carried = c h.carried }

pub holds-swapped : (p : Pool) (a b : Held) (hs : List Held) → Holds p (a ∷ b ∷ hs) → Holds p (b ∷ a ∷ hs)
holds-swapped p a b hs = holds-reordered p (a ∷ b ∷ hs) (b ∷ a ∷ hs) (λ m. omega arith) (λ c. (c.1.0, (c.0, c.1.1)))

times-sum : (m : ℕ) (hs : List Held) → times m (map node_of hs) ≡ sum_by (λ h. same m h.node) hs
times-sum m [] = refl
times-sum m (h ∷ hs) = omega (arith, times-sum m hs, sum_by-cons (λ g. same m g.node) h hs)

pub holds-shuffled : (p : Pool) (old new : List Held) → IsPermutation old new → Holds p old → Holds p new
holds-shuffled p old new s =
    holds-reordered p old new
    (λ m. times-sum m new ∙ sum_by-IsPermutation (λ h. same m h.node) old new s ∙ sym (times-sum m old)) (all_shuffled _ old new s)

-- an owner comes to the front, and goes back
times-moved : (m : ℕ) (front : List Held) (h : Held) (back : List Held)
    → times m (map node_of (front ++ h ∷ back)) ≡ times m (map node_of (h ∷ front ++ back))
times-moved m [] h back = refl
times-moved m (g ∷ front) h back = omega (arith, times-moved m front h back)

pub holds-first : (p : Pool) (front : List Held) (h : Held) (back : List Held) → Holds p (front ++ h ∷ back) → Holds p (h ∷ (front ++ back))
holds-first p front h back =
    holds-reordered p (front ++ h ∷ back) (h ∷ (front ++ back)) (λ m. sym (times-moved m front h back)) (carried_first p h back front)
  where
    carried_first : (q : Pool) (g : Held) (rest : List Held) (before : List Held) → Carried (memory_of q) (before ++ g ∷ rest)
        → Carried (memory_of q) (g ∷ (before ++ rest))
    carried_first q g rest [] c = c
    carried_first q g rest (f ∷ before) c = let r = carried_first q g rest before c.1 in (r.0, (c.0, r.1))

pub holds-placed : (p : Pool) (front : List Held) (h : Held) (back : List Held) → Holds p (h ∷ (front ++ back)) → Holds p (front ++ h ∷ back)
holds-placed p front h back =
    holds-reordered p (h ∷ (front ++ back)) (front ++ h ∷ back) (λ m. times-moved m front h back) (carried-placed p h back front)
  where
    carried-placed : (q : Pool) (g : Held) (rest : List Held) (before : List Held) → Carried (memory_of q) (g ∷ (before ++ rest))
        → Carried (memory_of q) (before ++ g ∷ rest)
    carried-placed q g rest [] c = c
    carried-placed q g rest (f ∷ before) c = (c.1.0, carried-placed q g rest before (c.0, c.1.1))
