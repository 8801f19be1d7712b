-- What putting a key with its value into a tree needs, and the contents of the nodes that it makes.
use Rattle.std.specs.Prelude.{ℕ, ◌+◌, ◌*◌, ◌^◌, ◌<◌, ◌≤◌, List, ◌∷◌, length, ℤ}
use Rattle.pool.specs.Held.{Held, Holds, held}
use Rattle.pool.specs.Sound.{memory_of, used_of}
use Rattle.pool.specs.Tree.{Tree}
use Rattle.pool.specs.declared.node.Node.{Node}
use Rattle.pool.specs.declared.node.Words.{Words}
use Rattle.pool.specs.declared.pool.Pool.{Pool}
use Rattle.tree.specs.Shape.{Balanced, height}

-- a tree that a key with its value can go into, and what the value owns
pub record Insertable (p : Pool) (n link : ℕ) : Type 0 where
  pub t : Tree
  pub nested : Tree
  pub others : List Held
  pub holds : Holds p (held n t ∷ held link nested ∷ others)
  pub few : length others + 2 * height t + 8 < 2 ^ 31
  pub balanced : Balanced t
  pub low : height t ≤ 99
  pub room : used_of p + 3 * height t + 1 ≤ length (memory_of p)

-- the contents of a node for a key with its value, with no sides yet
abbrev pub entry_of : Words → ℤ → ℕ → Node
entry_of words word link = record { key = words; word = word; left = 0; right = 0; nested = link; height = 0; count = 0 }

-- the contents of a node with another value
abbrev pub revalued_of : Node → ℤ → ℕ → Node
revalued_of x word link =
    record { key = x.key; word = word; left = x.left; right = x.right; nested = link; height = x.height; count = 0 }

-- the owners of a node's old nested tree, of its two sides and of what a new value owns
abbrev pub replacing : Node → ℕ → Tree → Tree → Tree → Tree → List Held → List Held
replacing x link old nested left right hs = held x.nested old ∷ held x.left left ∷ held link nested ∷ held x.right right ∷ hs
