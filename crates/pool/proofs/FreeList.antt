-- The free list before and after a write.
use Rattle.std.proofs.Common.{◌≡◌, ℕ, ◌-◌, ◌<◌, ◌≤◌, Bool, cond, ◌≢◌, List, [], ◌∷◌, length, set, sym, ap, ◌∙◌, subst, inl, inr, arith, length-set}
use Rattle.std.proofs.lemmas.Bool.{cases_eq, eq-eqb, ne_eqb}
use Rattle.pool.proofs.Nodes.{node_kept}
use Rattle.pool.proofs.Owners.{same-other, other-from-same}
use Rattle.pool.specs.FreeList.{Chain, busy, idle}
use Rattle.pool.specs.Node.{free_node, node_at}
use Rattle.pool.specs.Owners.{same, times}
use Rattle.pool.specs.declared.node.Node.{Node}

pub idle-free : (x : Node) → x.count ≡ 0 → idle x ≡ 1
unfolding idle
idle-free x e = ap (λ (b : Bool). cond b 1 0) (eq-eqb x.count 0 e)

pub idle-used : (x : Node) → 0 < x.count → idle x ≡ 0
unfolding idle
idle-used x h = ap (λ (b : Bool). cond b 1 0) (ne_eqb x.count 0 (λ e. omega arith))

pub busy-free : (x : Node) → x.count ≡ 0 → busy x ≡ 0
unfolding busy
busy-free x e = ap (λ (b : Bool). cond b 0 1) (eq-eqb x.count 0 e)

pub busy-used : (x : Node) → 0 < x.count → busy x ≡ 1
unfolding busy
busy-used x h = ap (λ (b : Bool). cond b 0 1) (ne_eqb x.count 0 (λ e. omega arith))

-- a write to a node that is not on the list leaves the list
pub chain-kept : (mem : List Node) (n : ℕ) (x : Node) → 0 < n → (first : ℕ) (ns : List ℕ) → times n ns ≡ 0 → Chain mem first ns
    → Chain (set mem (n - 1) x) first ns
chain-kept mem n x h first [] z c = c
chain-kept mem n x h first (m ∷ ns) z c =
    let ne : m ≢ n = λ e. other-from-same n m (omega arith) (sym e) in (
      c.0,
      c.1,
      rw length-set c.2,
      (
        c.3.0,
        node_kept mem n m x h ne ∙ c.3.1,
        chain-kept mem n x h c.3.0 ns (omega arith) c.3.2,
      ),
    )

-- what stands on the list is a free node of the memory
pub chain-free : (mem : List Node) (first : ℕ) (ns : List ℕ) → Chain mem first ns → (m : ℕ) → 0 < times m ns
    → (next : ℕ) × (node_at mem m ≡ free_node next)
chain-free mem first [] c m h = absurd (omega arith)
chain-free mem first (n ∷ ns) c m h =
    elim (cases_eq m n) [
      | inl e ↦ (c.3.0, ap (node_at mem) e ∙ c.3.1)
      | inr ne ↦ let z : same m n ≡ 0 = same-other m n ne in chain-free mem c.3.0 ns c.3.2 m (omega arith)
    ]

-- the first of the list is a node of the memory, or 0
pub first-within : (mem : List Node) (first : ℕ) (ns : List ℕ) → Chain mem first ns → first ≤ length mem
first-within mem first [] c = omega arith
first-within mem first (n ∷ ns) c = omega arith

-- a list that has a node begins with a free node, which names the first of the rest
pub chain-begins : (mem : List Node) (first : ℕ) (ns : List ℕ) → Chain mem first ns → 0 < length ns
    → (rest : List ℕ) × (ns ≡ first ∷ rest) × (0 < first) × (first ≤ length mem)
    × (node_at mem first ≡ free_node (node_at mem first).key.low) × Chain mem (node_at mem first).key.low rest
chain-begins mem first [] c h = absurd (omega arith)
chain-begins mem first (n ∷ rest) c h =
    let e : node_at mem first ≡ free_node c.3.0 = ap (node_at mem) c.0 ∙ c.3.1 in
    let low : (node_at mem first).key.low ≡ c.3.0 = ap (λ (x : Node). x.key.low) e in (
      rest,
      ap (λ (k : ℕ). k ∷ rest) (sym c.0),
      omega (arith, c.0, c.1),
      omega (arith, c.0, c.2),
      e ∙ ap free_node (sym low),
      subst (λ (k : ℕ). Chain mem k rest) (sym low) c.3.2,
    )
