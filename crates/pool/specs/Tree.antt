-- The plain tree that a node carries.
use Rattle.std.specs.Prelude.{◌≡◌, ℕ, ◌<◌, List, ℤ}
use Rattle.pool.specs.Node.{node_at}
use Rattle.pool.specs.declared.node.Node.{Node}
use Rattle.pool.specs.declared.node.Words.{Words}

-- a fork has a key, a word, the height as stored, and three trees: nested, left and right
pub data Tree : Type 0 where
  leaf : Tree
  fork : Words → ℤ → ℕ → Tree → Tree → Tree → Tree

-- the fork with the contents of a node over three trees
abbrev pub fork_of : Node → Tree → Tree → Tree → Tree
fork_of x nested left right = fork x.key x.word x.height nested left right

-- the node n carries the tree: 0 carries the leaf
abbrev pub Linked : List Node → ℕ → Tree → Type 0
Linked mem n leaf = n ≡ 0
Linked mem n (fork key word height nested left right) =
    (0 < n) × ((node_at mem n).key ≡ key) × ((node_at mem n).word ≡ word) × ((node_at mem n).height ≡ height)
    × Linked mem (node_at mem n).nested nested × Linked mem (node_at mem n).left left × Linked mem (node_at mem n).right right
