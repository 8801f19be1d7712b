-- The owners of a table's places: those of one place come to the front, and go back.
use Rattle.std.proofs.Common.{◌≡◌, ℕ, zero, suc, ◌*◌, ◌<◌, ◌≤◌, List, [], ◌∷◌, ◌++◌, length, get_or, set, sym, refl, ap, subst, arith}
use Rattle.pool.proofs.Reorder.{holds-first, holds-placed}
use Rattle.pool.specs.Held.{Held, Holds}
use Rattle.pool.specs.declared.pool.Pool.{Pool}
use Rattle.register.specs.Places.{Place, free, owners_of, sheet_at, stages_at}

before : ℕ → List Place → List Held
before i [] = []
before zero (x ∷ xs) = []
before (suc i) (x ∷ xs) = stages_at x ∷ sheet_at x ∷ before i xs

behind : ℕ → List Place → List Held
behind i [] = []
behind zero (x ∷ xs) = owners_of xs
behind (suc i) (x ∷ xs) = behind i xs

-- the owners of all places but one
pub others : ℕ → List Place → List Held
others i xs = before i xs ++ behind i xs

owners-at : (xs : List Place) (i : ℕ) → i < length xs
    → owners_of xs ≡ before i xs ++ stages_at (get_or xs i free) ∷ sheet_at (get_or xs i free) ∷ behind i xs
unfolding before behind
owners-at [] i h = absurd (omega arith)
owners-at (x ∷ xs) zero h = refl
owners-at (x ∷ xs) (suc i) h = ap (λ (hs : List Held). stages_at x ∷ sheet_at x ∷ hs) (owners-at xs i (omega arith))

owners-set : (xs : List Place) (i : ℕ) (y : Place) → i < length xs
    → owners_of (set xs i y) ≡ before i xs ++ stages_at y ∷ sheet_at y ∷ behind i xs
unfolding before behind
owners-set [] i y h = absurd (omega arith)
owners-set (x ∷ xs) zero y h = refl
owners-set (x ∷ xs) (suc i) y h = ap (λ (hs : List Held). stages_at x ∷ sheet_at x ∷ hs) (owners-set xs i y (omega arith))

pub owners-apart : (p : Pool) (xs : List Place) (i : ℕ) → i < length xs → Holds p (owners_of xs)
    → Holds p (stages_at (get_or xs i free) ∷ sheet_at (get_or xs i free) ∷ others i xs)
unfolding others
owners-apart p xs i h holds =
    let x = get_or xs i free in
    let split = subst (Holds p) (owners-at xs i h) holds in
    let one = holds-first p (before i xs) (stages_at x) (sheet_at x ∷ behind i xs) split in
    holds-second p (stages_at x) (before i xs) (sheet_at x) (behind i xs) one
  where
    holds-second : (q : Pool) (first : Held) (front : List Held) (h : Held) (back : List Held)
        → Holds q (first ∷ (front ++ h ∷ back)) → Holds q (first ∷ h ∷ (front ++ back))
    holds-second q first front h back holds =
        holds-placed q (first ∷ []) h (front ++ back) (holds-first q (first ∷ front) h back holds)

-- the same behind a further owner
pub owners-apart-from : (p : Pool) (a : Held) (xs : List Place) (i : ℕ) → i < length xs → Holds p (a ∷ owners_of xs)
    → Holds p (sheet_at (get_or xs i free) ∷ stages_at (get_or xs i free) ∷ a ∷ others i xs)
unfolding others
owners-apart-from p a xs i h holds =
    let x = get_or xs i free in
    let split = subst (λ (hs : List Held). Holds p (a ∷ hs)) (owners-at xs i h) holds in
    let one = holds-first p (a ∷ before i xs) (stages_at x) (sheet_at x ∷ behind i xs) split in
    holds-first p (stages_at x ∷ a ∷ before i xs) (sheet_at x) (behind i xs) one

pub owners-joined : (p : Pool) (xs : List Place) (i : ℕ) (y : Place) → i < length xs
    → Holds p (stages_at y ∷ sheet_at y ∷ others i xs) → Holds p (owners_of (set xs i y))
unfolding others
owners-joined p xs i y h holds =
    let one = holds-placed p (stages_at y ∷ before i xs) (sheet_at y) (behind i xs) (holds-first p (stages_at y ∷ []) (sheet_at y) (before i xs ++ behind i xs) holds) in
    subst (Holds p) (sym (owners-set xs i y h)) (holds-placed p (before i xs) (stages_at y) (sheet_at y ∷ behind i xs) one)

pub length-owners : (xs : List Place) → length (owners_of xs) ≡ 2 * length xs
length-owners [] = refl
length-owners (x ∷ xs) = omega (arith, length-owners xs)

pub length-others : (xs : List Place) (i : ℕ) → length (others i xs) ≤ 2 * length xs
unfolding others before behind
length-others [] i = omega arith
length-others (x ∷ xs) zero = omega (arith, length-owners xs)
length-others (x ∷ xs) (suc i) = omega (arith, length-others xs i)
