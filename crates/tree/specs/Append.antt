-- Appending: a key that comes after all keys of a tree goes down its right side.
use Rattle.std.specs.Prelude.{◌≡◌, ◌≤◌}
use Rattle.std.specs.declared.cmp.Ordering.TheVariants.{Greater}
use Rattle.std.specs.declared.cmp.Ordering.{Ordering}
use Rattle.pool.specs.Tree.{Tree, fork, leaf}
use Rattle.pool.specs.declared.node.Words.{Words}
use Rattle.tree.specs.Shape.{height}

-- `place` finds the key after the root, and after every root on the way down the right side
abbrev pub Behind : (Words → Ordering) → Tree → Type 0
Behind place leaf = Unit {0}
Behind place (fork words word tall nested left right) = (place words ≡ Greater) × Behind place right

-- the left side is no higher than the right side
abbrev pub LeansRight : Tree → Type 0
LeansRight leaf = Unit {0}
LeansRight (fork words word tall nested left right) = height left ≤ height right
