-- What taking a key out of a tree needs, and what taking its first node out leaves.
use Rattle.std.specs.Prelude.{◌≡◌, ℕ, ◌+◌, ◌*◌, ◌^◌, ◌<◌, ◌≤◌, List, ◌∷◌, length}
use Rattle.pool.specs.Held.{Held, Holds, held}
use Rattle.pool.specs.Sound.{memory_of, used_of}
use Rattle.pool.specs.Tree.{Tree}
use Rattle.pool.specs.declared.node.Node.{Node}
use Rattle.pool.specs.declared.node.Words.{Words}
use Rattle.pool.specs.declared.pool.Pool.{Pool}
use Rattle.tree.specs.Shape.{Balanced, Item, height}

-- a tree that a key can go out of
pub record Removable (p : Pool) (n : ℕ) : Type 0 where
  pub t : Tree
  pub others : List Held
  pub holds : Holds p (held n t ∷ others)
  pub few : length others + 2 * height t + 8 < 2 ^ 31
  pub balanced : Balanced t
  pub low : height t ≤ 100
  pub room : used_of p + 3 * height t ≤ length (memory_of p)

-- the two sides of a node that goes
pub record Joinable (p : Pool) (left right : ℕ) : Type 0 where
  pub l : Tree
  pub r : Tree
  pub others : List Held
  pub holds : Holds p (held left l ∷ held right r ∷ others)
  pub few : length others + 2 * height r + 10 < 2 ^ 31
  pub balanced_left : Balanced l
  pub balanced_right : Balanced r
  pub low_left : height l ≤ 100
  pub low_right : height r ≤ 100
  pub room : used_of p + 3 * height r ≤ length (memory_of p)

-- the owners of the nested tree and of the two sides of a node that goes
abbrev pub leaving : Node → Tree → Tree → Tree → List Held → List Held
leaving x nested l r hs = held x.nested nested ∷ held x.left l ∷ held x.right r ∷ hs

-- a node that goes, taken apart
pub record Leaving (p : Pool) (x : Node) : Type 0 where
  pub nested : Tree
  pub l : Tree
  pub r : Tree
  pub others : List Held
  pub holds : Holds p (leaving x nested l r others)
  pub few : length others + 2 * height r + 10 < 2 ^ 31
  pub balanced_left : Balanced l
  pub balanced_right : Balanced r
  pub low_left : height l ≤ 100
  pub low_right : height r ≤ 100
  pub room : used_of p + 3 * height r ≤ length (memory_of p)

-- the first node x of a tree was taken apart: x has the key and the word of its item, and the pool holds what it owned and the rest
pub record FirstTaken (p : Pool) (x : Node) (rest : ℕ) (root : Item Words) (without : Tree) (hs : List Held) : Type 0 where
  pub key_is : x.key ≡ root.key
  pub word_is : x.word ≡ root.word
  pub holds : Holds p (held x.nested root.nested ∷ held rest without ∷ hs)
