-- A root over other sides than its own.
use Rattle.std.proofs.Common.{ℕ, List, ◌∷◌, ℤ}
use Rattle.pool.specs.Held.{Held, held}
use Rattle.pool.specs.Tree.{Tree}
use Rattle.pool.specs.declared.node.Node.{Node}
use Rattle.pool.specs.declared.pool.Pool.{Pool}
use Rattle.tree.specs.Ready.{Balanceable}

-- a root over these two sides
abbrev pub over : Node → ℕ → ℕ → Node
over root left right =
    record { key = root.key; word = root.word; left = left; right = right; nested = root.nested; height = root.height; count = root.count }

-- the owners of a root's nested tree and of two sides
abbrev pub sides : Node → ℕ → ℕ → Tree → Tree → Tree → List Held → List Held
sides root left right nested l r hs = held left l ∷ held root.nested nested ∷ held right r ∷ hs

-- the owners of two roots' nested trees and of three sides before, between and behind them
abbrev pub three_sides : Node → Node → ℕ → ℕ → ℕ → Tree → Tree → Tree → Tree → Tree → List Held → List Held
three_sides lower upper left middle right inner nested l m r hs =
    held left l ∷ held lower.nested inner ∷ held middle m ∷ held upper.nested nested ∷ held right r ∷ hs

-- the word of a root does not matter to its sides
pub worded : (p : Pool) (root : Node) (left right : ℕ) (word : ℤ) → Balanceable p (over root left right)
    → Balanceable p (record { key = root.key; word = word; left = left; right = right; nested = root.nested; height = root.height; count = root.count })
worded p root left right word b =
    record {
      nested = b.nested;
      l = b.l;
      r = b.r;
      others = b.others;
      holds = b.holds;
      few = b.few;
      balanced_left = b.balanced_left;
      balanced_right = b.balanced_right;
      low_left = b.low_left;
      low_right = b.low_right;
    }
