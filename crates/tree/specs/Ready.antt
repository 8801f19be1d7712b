-- What the calls that put nodes together need: a pool that holds the root's nested tree and two sides, with heights that fit.
use Rattle.std.specs.Prelude.{ℕ, ◌+◌, ◌^◌, ◌<◌, ◌≤◌, List, ◌∷◌, length, ℤ}
use Rattle.pool.specs.Held.{Held, Holds, held}
use Rattle.pool.specs.Tree.{Tree, fork}
use Rattle.pool.specs.declared.node.Node.{Node}
use Rattle.pool.specs.declared.node.Words.{Words}
use Rattle.pool.specs.declared.pool.Pool.{Pool}
use Rattle.tree.specs.Shape.{Balanced, height}

-- the owners of a root's nested tree and of its two sides
abbrev pub sides : Node → Tree → Tree → Tree → List Held → List Held
sides root nested l r hs = held root.left l ∷ held root.nested nested ∷ held root.right r ∷ hs

-- a root that can be put over its two sides
pub record Buildable (p : Pool) (root : Node) : Type 0 where
  pub nested : Tree
  pub l : Tree
  pub r : Tree
  pub others : List Held
  pub holds : Holds p (sides root nested l r others)
  pub low_left : height l ≤ 254
  pub low_right : height r ≤ 254

-- the owners of two roots' nested trees, of the side before the lower, of the one between them, and of the one behind the upper
abbrev pub three_sides : Node → Node → ℕ → Tree → Tree → Tree → Tree → Tree → List Held → List Held
three_sides lower upper middle inner nested l m r hs =
    held lower.left l ∷ held lower.nested inner ∷ held middle m ∷ held upper.nested nested ∷ held upper.right r ∷ hs

-- two roots with three sides, of which the middle one can come up
pub record Doubled (p : Pool) (lower upper : Node) (middle : ℕ) : Type 0 where
  pub inner : Tree
  pub nested : Tree
  pub l : Tree
  pub r : Tree
  pub key : Words
  pub word : ℤ
  pub tall : ℕ
  pub within : Tree
  pub before : Tree
  pub behind : Tree
  pub others : List Held
  pub holds : Holds p (three_sides lower upper middle inner nested l (fork key word tall within before behind) r others)
  pub few : length others + 6 < 2 ^ 31
  pub low_left : height l ≤ 250
  pub low_before : height before ≤ 250
  pub low_behind : height behind ≤ 250
  pub low_right : height r ≤ 250

-- a root that can be put over its two sides, which are balanced, and rotated
pub record Balanceable (p : Pool) (root : Node) : Type 0 where
  pub nested : Tree
  pub l : Tree
  pub r : Tree
  pub others : List Held
  pub holds : Holds p (sides root nested l r others)
  pub few : length others + 8 < 2 ^ 31
  pub balanced_left : Balanced l
  pub balanced_right : Balanced r
  pub low_left : height l ≤ 100
  pub low_right : height r ≤ 100
