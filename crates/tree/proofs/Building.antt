-- What a pool holds once a root was put over two sides.
use Rattle.std.proofs.Common.{◌≡◌, ℕ, suc, max, List, ◌∷◌, ℤ, subst, arith}
use Rattle.pool.proofs.Pools.{held-carries}
use Rattle.pool.proofs.Reorder.{holds-reordered}
use Rattle.pool.specs.Held.{Carries, Held, Holds, held}
use Rattle.pool.specs.Tree.{Tree, fork}
use Rattle.pool.specs.declared.node.Node.{Node}
use Rattle.pool.specs.declared.pool.Pool.{Pool}
use Rattle.tree.proofs.Sides.{sides}
use Rattle.tree.specs.Rebuild.{node}
use Rattle.tree.specs.Shape.{height}

module _ (p : Pool) (root : Node) (left right : ℕ) (nested l r : Tree) (hs : List Held) (h : Holds p (sides root left right nested l r hs)) where
  pub left-carries : Carries p left l
  left-carries = held-carries p left l (held root.nested nested ∷ held right r ∷ hs) h

  pub right-carries : Carries p right r
  right-carries =
      held-carries p right r (held left l ∷ held root.nested nested ∷ hs)
      (holds-reordered p (sides root left right nested l r hs) (held right r ∷ held left l ∷ held root.nested nested ∷ hs) (λ m. omega arith)
      (λ c. (c.1.1.0, (c.0, (c.1.0, c.1.1.1)))) h)

pub built : (q : Pool) (root : Node) (n tall : ℕ) (word : ℤ) (nested l r : Tree) (hs : List Held) → Holds q (held n (fork root.key word tall nested l r) ∷ hs)
    → word ≡ root.word → tall ≡ suc (max (height l) (height r)) → Holds q (held n (node root.key root.word nested l r) ∷ hs)
built q root n tall word nested l r hs h same high =
    subst (λ (k : ℕ). Holds q (held n (fork root.key root.word k nested l r) ∷ hs)) high
    (subst (λ (w : ℤ). Holds q (held n (fork root.key w tall nested l r) ∷ hs)) same h)
