-- Counting owners.
use Rattle.std.proofs.Common.{◌≡◌, ℕ, ◌*◌, ◌<◌, ◌≤◌, Bool, cond, ◌≢◌, List, [], ◌∷◌, length, get_or, refl, ap, inl, inr, arith}
use Rattle.std.proofs.ByRecursion.{All-from_get_or, sum_by_le}
use Rattle.std.proofs.lemmas.Bool.{cases_eq, eq-eqb, ne_eqb}
use Rattle.pool.specs.Node.{free_node}
use Rattle.pool.specs.Owners.{links, links_to, same, times}
use Rattle.pool.specs.declared.node.Node.{Node}

pub same_self : (n : ℕ) → same n n ≡ 1
unfolding same
same_self n = ap (λ (b : Bool). cond b 1 0) (eq-eqb n n refl)

pub same-other : (m n : ℕ) → m ≢ n → same m n ≡ 0
unfolding same
same-other m n ne = ap (λ (b : Bool). cond b 1 0) (ne_eqb m n ne)

pub same-le : (m n : ℕ) → same m n ≤ 1
same-le m n = elim (cases_eq m n) [ inl e ↦ rw e (omega (arith, same_self n)) | inr ne ↦ omega (arith, same-other m n ne) ]

-- numbers that are told apart by a count of 0 differ
pub other-from-same : (m n : ℕ) → same m n ≡ 0 → m ≢ n
other-from-same m n z e = let one : same m n ≡ 1 = rw e (same_self n) in omega arith

pub no-links : (m next : ℕ) → 0 < m → links m (free_node next) ≡ 0
no-links m next h = omega (arith, same-other m 0 (λ e. omega arith))

pub times-le-length : (m : ℕ) (ns : List ℕ) → times m ns ≤ length ns
times-le-length m [] = omega arith
times-le-length m (n ∷ ns) = omega (arith, same-le m n, times-le-length m ns)

pub links-le : (m : ℕ) (mem : List Node) → links_to m mem ≤ length mem * 3
links-le m mem =
    sum_by_le (links m) 3 mem (All-from_get_or (λ x. links m x ≤ 3) mem (free_node 0) (λ i h.
    let x : Node = get_or mem i (free_node 0) in omega (arith, same-le m x.left, same-le m x.nested, same-le m x.right)))
