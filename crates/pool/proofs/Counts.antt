-- Counts after a write: a node's count is its owners again.
use Rattle.std.proofs.Common.{◌≡◌, ℕ, ◌+◌, ◌-◌, ◌<◌, ◌≤◌, ◌≢◌, List, length, set, sym, ap, ◌∙◌, subst, inl, inr, arith}
use Rattle.std.proofs.lemmas.Bool.{cases_eq}
use Rattle.pool.proofs.Nodes.{node_kept, node-written, sum-written}
use Rattle.pool.specs.Node.{node_at}
use Rattle.pool.specs.Owners.{links, links_to, times}
use Rattle.pool.specs.declared.node.Node.{Node}

-- each node's count is its owners
abbrev pub Counted : List Node → List ℕ → Type 0
Counted mem roots = (n : ℕ) → 0 < n → (node_at mem n).count ≡ times n roots + links_to n mem

pub counted-written : (mem : List Node) (n : ℕ) (x : Node) (old new : List ℕ) → 0 < n → n ≤ length mem → Counted mem old
    → ((m : ℕ) → 0 < m → m ≢ n → times m new + links m x ≡ times m old + links m (node_at mem n))
    → x.count + times n old + links n (node_at mem n) ≡ (node_at mem n).count + times n new + links n x
    → Counted (set mem (n - 1) x) new
counted-written mem n x old new h k counted others here m p =
    elim (cases_eq m n) [
      | inl e ↦ subst (λ (i : ℕ). (node_at (set mem (n - 1) x) i).count ≡ times i new + links_to i (set mem (n - 1) x)) (sym e)
          (ap (λ (y : Node). y.count) (node-written mem n x h k) ∙ omega (arith, counted n h, sum-written (links n) mem n x h k))
      | inr ne ↦ ap (λ (y : Node). y.count) (node_kept mem n m x h ne)
          ∙ omega (arith, counted m p, others m p ne, sum-written (links m) mem n x h k)
    ]
