-- Which nodes an outside owner reaches, and what a sound pool accounts for.
use Rattle.std.specs.Prelude.{◌≡◌, ℕ, ◌+◌, ◌<◌, ◌≤◌, List, length}
use Rattle.std.specs.List.{AllByRecursion}
use Rattle.pool.specs.FreeList.{Chain}
use Rattle.pool.specs.Node.{node_at}
use Rattle.pool.specs.Owners.{links, links_to, times}
use Rattle.pool.specs.Sound.{memory_of, used_of}
use Rattle.pool.specs.declared.node.Node.{Node}
use Rattle.pool.specs.declared.pool.Pool.{Pool}

-- a chain of left, nested and right links leads from an outside owner to the node
pub data Reached (mem : List Node) (roots : List ℕ) : ℕ → Type 0 where
  owned : (n : ℕ) → 0 < times n roots → Reached mem roots n
  linked : (m n : ℕ) → Reached mem roots m → 0 < links n (node_at mem m) → Reached mem roots n

-- of the nodes of a memory, with this first free node and so many nodes in use
pub record AccountedIn (mem : List Node) (first busy : ℕ) (roots : List ℕ) : Type 0 where
  -- a node is in use exactly where an outside owner reaches it
  pub reached : (n : ℕ) → 0 < (node_at mem n).count → Reached mem roots n
  pub used : (n : ℕ) → 0 < n → Reached mem roots n → 0 < (node_at mem n).count
  -- its count is the number of its owners
  pub counted : (n : ℕ) → 0 < n → (node_at mem n).count ≡ times n roots + links_to n mem
  -- the free list has every other node once, and no node in use
  pub chain : List ℕ
  pub chained : Chain mem first chain
  pub listed : (n : ℕ) → 0 < n → n ≤ length mem → (node_at mem n).count ≡ 0 → times n chain ≡ 1
  pub unlisted : (n : ℕ) → 0 < n → n ≤ length mem → 0 < (node_at mem n).count → times n chain ≡ 0
  -- where no outside owner has a node, all nodes are free
  pub empty : AllByRecursion (λ r. r ≡ 0) roots → busy ≡ 0

abbrev pub Accounted : Pool → List ℕ → Type 0
Accounted p = AccountedIn (memory_of p) p.free (used_of p)
