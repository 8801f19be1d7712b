-- The pool's one invariant, over the list of its outside owners.
use Rattle.std.specs.Prelude.{◌≡◌, ℕ, ◌+◌, ◌<◌, ◌≤◌, List, length, sum_by}
use Rattle.std.specs.Borrow.{GName}
use Rattle.pool.specs.FreeList.{Chain, busy, idle}
use Rattle.pool.specs.Node.{node_at}
use Rattle.pool.specs.Owners.{links_to, times}
use Rattle.pool.specs.Tree.{Linked, Tree}
use Rattle.pool.specs.declared.node.Node.{Node}
use Rattle.pool.specs.declared.pool.Pool.{Pool}

pub record SoundIn (mem : List Node) (free used : ℕ) (roots : List ℕ) : Type 0 where
  -- a node's count is its owners
  pub counted : (n : ℕ) → 0 < n → (node_at mem n).count ≡ times n roots + links_to n mem
  -- a node in use carries a finite tree
  pub grown : (n : ℕ) → 0 < (node_at mem n).count → (t : Tree) × Linked mem n t
  -- the free list
  pub chain : List ℕ
  pub chained : Chain mem free chain
  -- a node stands on the free list, once, exactly where its count is 0
  pub listed : (n : ℕ) → 0 < n → n ≤ length mem → times n chain ≡ idle (node_at mem n)
  pub spare : used + length chain ≡ length mem
  -- a link has 16 bits, and so has the number of nodes
  pub small : length mem ≤ 65535
  pub tallied : used ≡ sum_by busy mem

-- the nodes of a pool
abbrev pub memory_of : Pool → List Node
memory_of p = p.nodes.now

-- the name of the borrow of the lent memory
abbrev pub lender_of : Pool → GName
lender_of p = p.nodes.ghost_name

-- how many of them are in use
abbrev pub used_of : Pool → ℕ
used_of p = p.used

unfoldable pub Sound : Pool → List ℕ → Type 0
Sound p roots = SoundIn p.nodes.now p.free p.used roots
