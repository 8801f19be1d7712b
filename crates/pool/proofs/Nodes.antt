-- Reading and writing a node of a memory.
use Rattle.std.proofs.Common.{◌≡◌, ℕ, zero, suc, ◌+◌, ◌-◌, ◌<◌, ◌≤◌, ◌≢◌, List, length, get_or, set, sum_by, refl, ap, ◌∙◌, inl, inr, arith, get_or-set_other, get_or-set_same}
use Rattle.std.proofs.lemmas.List.{get_or_past}
use Rattle.std.proofs.lemmas.List.Sums.{sum_by-set, get_or-le-sum_by}
use Rattle.std.proofs.lemmas.Bool.{cases_lt}
use Rattle.pool.specs.Node.{free_node, node_at}
use Rattle.pool.specs.declared.node.Node.{Node}

pub node_at_lem : (mem : List Node) (n : ℕ) → 0 < n → node_at mem n ≡ get_or mem (n - 1) (free_node 0)
unfolding node_at
node_at_lem mem zero h = absurd (omega arith)
node_at_lem mem (suc i) h = let e : suc i - 1 ≡ i = omega arith in rw e

-- a node that does not read as free stands in the memory
pub node-past : (mem : List Node) (n : ℕ) → length mem < n → node_at mem n ≡ free_node 0
unfolding node_at
node-past mem zero h = refl
node-past mem (suc i) h = get_or_past mem i (free_node 0) (omega arith)

pub node-free : (mem : List Node) → node_at mem 0 ≡ free_node 0
unfolding node_at
node-free mem = refl

pub node-zero : (mem : List Node) → (node_at mem 0).count ≡ 0
unfolding node_at
node-zero mem = refl

pub used-numbered : (mem : List Node) (n : ℕ) → 0 < (node_at mem n).count → 0 < n
unfolding node_at
used-numbered mem zero h = absurd (omega arith)
used-numbered mem (suc i) h = omega arith

pub used-within : (mem : List Node) (n : ℕ) → 0 < (node_at mem n).count → n ≤ length mem
used-within mem n h =
    elim (cases_lt (length mem) n) [
      | inl past ↦ absurd (omega (arith, ap (λ (x : Node). x.count) (node-past mem n past)))
      | inr within ↦ within
    ]

-- what a write leaves at the node, and at every other
pub node-written : (mem : List Node) (n : ℕ) (x : Node) → 0 < n → n ≤ length mem → node_at (set mem (n - 1) x) n ≡ x
node-written mem n x h k = node_at_lem (set mem (n - 1) x) n h ∙ get_or-set_same mem (n - 1) x (free_node 0) (omega arith)

pub node_kept : (mem : List Node) (n m : ℕ) (x : Node) → 0 < n → m ≢ n → node_at (set mem (n - 1) x) m ≡ node_at mem m
unfolding node_at
node_kept mem n zero x h ne = refl
node_kept mem n (suc i) x h ne = get_or-set_other mem (n - 1) i x (free_node 0) (λ e. ne (omega arith))

-- a sum over all nodes after a write
pub sum-written : (f : Node → ℕ) (mem : List Node) (n : ℕ) (x : Node) → 0 < n → n ≤ length mem
    → sum_by f (set mem (n - 1) x) + f (node_at mem n) ≡ sum_by f mem + f x
sum-written f mem n x h k =
    ap (λ (y : Node). sum_by f (set mem (n - 1) x) + f y) (node_at_lem mem n h) ∙ sum_by-set f mem (n - 1) x (free_node 0) (omega arith)

-- no node counts for more than the sum, unless a free node counts
pub node-le-sum : (f : Node → ℕ) (mem : List Node) (n : ℕ) → f (free_node 0) ≡ 0 → f (node_at mem n) ≤ sum_by f mem
unfolding node_at
node-le-sum f mem zero e = omega arith
node-le-sum f mem (suc i) e =
    elim (cases_lt i (length mem)) [
      | inl within ↦ get_or-le-sum_by f mem i (free_node 0) within
      | inr past ↦ let z : f (get_or mem i (free_node 0)) ≡ 0 = ap f (get_or_past mem i (free_node 0) past) ∙ e in omega arith
    ]
