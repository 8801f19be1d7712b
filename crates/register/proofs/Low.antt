-- No tree of a register is too high: a balanced tree of height 25 has more items than there are nodes.
use Rattle.std.proofs.Common.{◌≡◌, ℕ, zero, suc, ◌+◌, ◌≤◌, max, false, List, ◌∷◌, length, refl, inl, inr, arith, length-append, le-ltb}
use Rattle.std.proofs.lemmas.Bool.{cases_eq, cases_lt}
use Rattle.pool.specs.Held.{Carries, Held, Holds}
use Rattle.pool.specs.Tree.{Tree, fork, leaf}
use Rattle.pool.specs.declared.node.Words.{Words}
use Rattle.pool.specs.declared.pool.Pool.{Pool}
use Rattle.tree.proofs.Counting.{few}
use Rattle.tree.specs.Kind.{Kind}
use Rattle.tree.specs.Shape.{Ascending, Balanced, Item, height, item, items}
use Rattle.register.specs.Declined.{too_high}
use Rattle.pool.specs.Sound.{memory_of}
use Rattle.pool.proofs.Pools.{sound-memory}

-- the k-th number of a row in which each is the sum of the two before it
abbrev row : ℕ → ℕ → ℕ → ℕ
row zero a b = a
row (suc k) a b = row k b (a + b)

-- a balanced tree of height k has at least one item fewer than this
abbrev least : ℕ → ℕ
least k = row k 1 2

row-sum : (k a b : ℕ) → row (suc (suc k)) a b ≡ row k a b + row (suc k) a b
row-sum zero a b = refl
row-sum (suc k) a b = row-sum k b (a + b)

row_up : (k a b : ℕ) → a ≤ b → row k a b ≤ row (suc k) a b
row_up zero a b l = l
row_up (suc k) a b l = row_up k b (a + b) (omega arith)

row-twice : (k a b : ℕ) → a ≤ b → b ≤ a + a → row (suc k) a b ≤ row k a b + row k a b
row-twice zero a b l m = m
row-twice (suc k) a b l m = row-twice k b (a + b) (omega arith) (omega arith)

least-up : (k h : ℕ) → k ≤ h → least k ≤ least h
least-up k zero l = let z : k ≡ 0 = omega arith in rw z (omega arith)
least-up k (suc h) l =
    elim (cases_eq k (suc h)) [
      | inl e ↦ rw e (omega arith)
      | inr ne ↦ omega (arith, least-up k h (omega (arith, l, ne)), row_up h 1 2 (omega arith))
    ]

-- over two sides whose heights differ by at most 1
sides : (l r : ℕ) → l ≤ r + 1 → r ≤ l + 1 → least (suc (max l r)) ≤ least l + least r
sides l r p q =
    elim (cases_eq l r) [
      | inl e ↦ let m : max l r ≡ l = omega arith in rw m (rw (← e) (row-twice l 1 2 (omega arith) (omega arith)))
      | inr ne ↦ elim (cases_lt l r) [
        | inl less ↦
            let m : max l r ≡ suc l = omega arith in
            let f : r ≡ suc l = omega arith in
            rw m (rw f (omega (arith, row-sum l 1 2)))
        | inr more ↦
            let m : max l r ≡ suc r = omega (arith, ne) in
            let f : l ≡ suc r = omega (arith, ne) in
            rw m (rw f (omega (arith, row-sum r 1 2)))
      ]
    ]

many : {K : Type 0} (key : Words → K) (t : Tree) → Balanced t → least (height t) ≤ length (items key t) + 1
many key leaf b = omega arith
many {K} key (fork words word tall nested left right) b =
    let x : Item K = item (key words) word nested in
    rw b.0 (omega (
      arith,
      sides (height left) (height right) b.1 b.2,
      many key left b.3,
      many key right b.4,
      length-append (items key left) (x ∷ items key right),
    ))

pub low : {K : Type 0} (𝓚 : Kind K) (p : Pool) (hs : List Held) → Holds p hs → (n : ℕ) (t : Tree) → Carries p n t → Balanced t
    → Ascending 𝓚.order (items 𝓚.key t) → too_high t ≡ false
low 𝓚 p hs h n t c b a =
    elim (cases_lt 24 (height t)) [
      | inl high ↦ absurd (
          let bound : least 25 ≡ 196418 = refl in
          omega (arith, bound, least-up 25 (height t) (omega arith), many 𝓚.key t b, few 𝓚 (memory_of p) (sound-memory p hs h) n t c a))
      | inr l ↦ le-ltb 24 (height t) l
    ]
