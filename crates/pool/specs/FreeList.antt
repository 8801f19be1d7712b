-- The free list: a chain of free nodes, in which each names the next.
use Rattle.std.specs.Prelude.{◌≡◌, ℕ, ◌+◌, ◌<◌, ◌≤◌, cond, List, [], ◌∷◌, length, ◌==◌}
use Rattle.pool.specs.Node.{free_node, node_at}
use Rattle.pool.specs.Owners.{times}
use Rattle.pool.specs.declared.node.Node.{Node}

-- the nodes of the list that begins at `first`, in order
abbrev pub Chain : List Node → ℕ → List ℕ → Type 0
Chain mem first [] = first ≡ 0
Chain mem first (n ∷ ns) =
    (first ≡ n) × (0 < n) × (n ≤ length mem) × ((next : ℕ) × (node_at mem n ≡ free_node next) × Chain mem next ns)

-- 1 for a node with count 0, else 0
unfoldable pub idle : Node → ℕ
idle x = cond (x.count == 0) 1 0

-- 1 for a node in use, else 0
unfoldable pub busy : Node → ℕ
busy x = cond (x.count == 0) 0 1

-- the nodes past the first i are free, and the list from `first` has each of them once and no other
pub record FreePast (mem : List Node) (first i : ℕ) : Type 0 where
  pub chain : List ℕ
  pub chained : Chain mem first chain
  pub past : (n : ℕ) → i < n → n ≤ length mem → times n chain ≡ 1
  pub upto : (n : ℕ) → n ≤ i → times n chain ≡ 0
  pub spare : i + length chain ≡ length mem

-- all nodes are free, each once on the free list
pub record AllFree (mem : List Node) : Type 0 where
  pub first : ℕ
  pub chain : List ℕ
  pub chained : Chain mem first chain
  pub once : (n : ℕ) → 0 < n → n ≤ length mem → times n chain ≡ 1
