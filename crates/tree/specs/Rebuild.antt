-- A tree put together from a root and two sides: with its height as it should be, and rotated where one side is too high.
use Rattle.std.specs.Prelude.{suc, ◌+◌, max, cond, ℤ, nat_lt}
use Rattle.pool.specs.Tree.{Tree, fork, leaf}
use Rattle.pool.specs.declared.node.Words.{Words}
use Rattle.tree.specs.Shape.{height}

-- the fork that stores one more than the greater height of its sides
abbrev pub node : Words → ℤ → Tree → Tree → Tree → Tree
node words word nested left right = fork words word (suc (max (height left) (height right))) nested left right

-- two roots with three trees before, between and behind them: the root of the tree between comes up
-- (that tree has nodes wherever this is called)
unfoldable pub rotate_double : Words → ℤ → Tree → Words → ℤ → Tree → Tree → Tree → Tree → Tree
rotate_double lower held inner upper word nested left leaf right = node lower held inner left (node upper word nested leaf right)
rotate_double lower held inner upper word nested left (fork middle value tall within before behind) right =
    node middle value within (node lower held inner left before) (node upper word nested behind right)

-- the left side comes up (it has nodes wherever this is called)
unfoldable pub rotate_right : Words → ℤ → Tree → Tree → Tree → Tree
rotate_right words word nested leaf right = node words word nested leaf right
rotate_right words word nested (fork lower held tall inner left middle) right =
    cond (nat_lt (height left) (height middle)) (rotate_double lower held inner words word nested left middle right)
    (node lower held inner left (node words word nested middle right))

-- the right side comes up (it has nodes wherever this is called)
unfoldable pub rotate_left : Words → ℤ → Tree → Tree → Tree → Tree
rotate_left words word nested left leaf = node words word nested left leaf
rotate_left words word nested left (fork upper held tall inner middle right) =
    cond (nat_lt (height right) (height middle)) (rotate_double words word nested upper held inner left middle right)
    (node upper held inner (node words word nested left middle) right)

-- rotated where one side is higher by 2 or more
unfoldable pub balance : Words → ℤ → Tree → Tree → Tree → Tree
balance words word nested left right =
    cond (nat_lt (height right + 1) (height left)) (rotate_right words word nested left right)
    (cond (nat_lt (height left + 1) (height right)) (rotate_left words word nested left right) (node words word nested left right))
