-- A node whose tree has nodes: its one tree, and what it leaves when it is taken apart.
use Rattle.std.proofs.Common.{◌≡◌, ℕ, suc, ◌<◌, max, List, ◌∷◌, ℤ, Ordering, sym, ap, ◌∙◌, arith}
use Rattle.pool.proofs.Nodes.{node-free}
use Rattle.pool.proofs.Pools.{held-carries}
use Rattle.pool.proofs.Reorder.{holds-swapped}
use Rattle.pool.proofs.Trees.{linked-unique}
use Rattle.pool.specs.Held.{Carries, Held, Holds, TakenApart, held}
use Rattle.pool.specs.Node.{node_at}
use Rattle.pool.specs.Sound.{memory_of}
use Rattle.pool.specs.Tree.{Tree, fork, leaf}
use Rattle.pool.specs.declared.node.Node.{Node}
use Rattle.pool.specs.declared.node.Words.{Words}
use Rattle.pool.specs.declared.pool.Pool.{Pool}
use Rattle.tree.proofs.Building.{left-carries, right-carries}
use Rattle.tree.proofs.Permuted.{third-first}
use Rattle.tree.proofs.Rotating.{Opens}
use Rattle.tree.specs.Shape.{Balanced, height}

-- the stored height is that of the tree that the node carries
pub carries-height : (p : Pool) (n : ℕ) (t : Tree) → Carries p n t → (node_at (memory_of p) n).height ≡ height t
carries-height p n leaf c =
    ap (λ (i : ℕ). (node_at (memory_of p) i).height) c.linked ∙ ap (λ (x : Node). x.height) (node-free (memory_of p))
carries-height p n (fork key word tall nested left right) c = c.linked.3

-- the tree of a node, which has nodes, and the other owners
pub record Standing (p : Pool) (n : ℕ) : Type 0 where
  pub key : Words
  pub word : ℤ
  pub tall : ℕ
  pub nested : Tree
  pub left : Tree
  pub right : Tree
  pub others : List Held
  pub holds : Holds p (held n (fork key word tall nested left right) ∷ others)

abbrev pub standing_tree : {p : Pool} {n : ℕ} → Standing p n → Tree
standing_tree d = fork d.key d.word d.tall d.nested d.left d.right

module _ {p : Pool} {n : ℕ} (d : Standing p n) where
  -- the node carries this tree and no other
  pub standing-only : (t : Tree) → Carries p n t → t ≡ standing_tree d
  standing-only t c = linked-unique (memory_of p) n t (standing_tree d) c.linked (held-carries p n (standing_tree d) _ d.holds).linked

  pub standing-height : (t : Tree) → Carries p n t → height t ≡ d.tall
  standing-height t c = ap height (standing-only t c)

  -- the sides of a balanced tree are lower
  module _ (balanced : Balanced (standing_tree d)) where
    pub left-lower : height d.left < d.tall
    left-lower = let e : d.tall ≡ suc (max (height d.left) (height d.right)) = balanced.0 in omega arith

    pub right-lower : height d.right < d.tall
    right-lower = let e : d.tall ≡ suc (max (height d.left) (height d.right)) = balanced.0 in omega arith

module _ {p : Pool} {n : ℕ} (d : Standing p n) (q : Pool) (x : Node) (opened : Opens p q n x) where
  pub stood-apart : TakenApart q x d.key d.word d.tall d.nested d.left d.right d.others
  stood-apart = opened d.key d.word d.tall d.nested d.left d.right _ d.holds

  pub stood-left : Carries q x.left d.left
  stood-left = left-carries q x x.left x.right d.nested d.left d.right _ stood-apart.holds

  pub stood-right : Carries q x.right d.right
  stood-right = right-carries q x x.left x.right d.nested d.left d.right _ stood-apart.holds

  pub at_left : Holds q (held x.left d.left ∷ held x.nested d.nested ∷ held x.right d.right ∷ d.others)
  at_left = stood-apart.holds

  pub at_right : Holds q (held x.right d.right ∷ held x.left d.left ∷ held x.nested d.nested ∷ d.others)
  at_right = third-first q (held x.left d.left) (held x.nested d.nested) (held x.right d.right) d.others at_left

  pub at_nested : Holds q (held x.nested d.nested ∷ held x.left d.left ∷ held x.right d.right ∷ d.others)
  at_nested = holds-swapped q (held x.left d.left) (held x.nested d.nested) (held x.right d.right ∷ d.others) at_left

  pub key-placed : (place : Words → Ordering) (o : Ordering) → place x.key ≡ o → place d.key ≡ o
  key-placed place o e = ap place (sym stood-apart.key_is) ∙ e

  -- a recursion into a side of a balanced tree ends
  module _ (balanced : Balanced (standing_tree d)) where
    stored : (node_at (memory_of p) n).height ≡ d.tall
    stored = carries-height p n (standing_tree d) (held-carries p n (standing_tree d) _ d.holds)

    pub left-falls : (node_at (memory_of q) x.left).height < (node_at (memory_of p) n).height
    left-falls = omega (arith, stored, left-lower d balanced, carries-height q x.left d.left stood-left)

    pub right-falls : (node_at (memory_of q) x.right).height < (node_at (memory_of p) n).height
    right-falls = omega (arith, stored, right-lower d balanced, carries-height q x.right d.right stood-right)
