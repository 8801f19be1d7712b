-- How far the height of a balanced tree moves when it is rebuilt, when a key goes in, and when a key goes out.
use Rattle.std.specs.Prelude.{◌≡◌, ℕ, suc, ◌+◌, ◌≤◌, max}
use Rattle.pool.specs.Tree.{Tree}
use Rattle.tree.specs.Shape.{Balanced, height}

-- balanced, and of a height that two sides of the heights l and r can give
pub record Rebuilt (l r : ℕ) (t : Tree) : Type 0 where
  pub balanced : Balanced t
  pub least : max l r ≤ height t
  pub most : height t ≤ suc (max l r)
  pub level : l ≤ r + 1 → r ≤ l + 1 → height t ≡ suc (max l r)

-- balanced, and as high as before or one higher
pub record Grown (before : ℕ) (after : Tree) : Type 0 where
  pub balanced : Balanced after
  pub least : before ≤ height after
  pub most : height after ≤ before + 1

-- balanced, and as high as before or one lower
pub record Shrunk (before : ℕ) (after : Tree) : Type 0 where
  pub balanced : Balanced after
  pub least : before ≤ height after + 1
  pub most : height after ≤ before
