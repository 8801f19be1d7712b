-- How many owners a node has: links of nodes, and outside owners.
use Rattle.std.specs.Prelude.{ℕ, ◌+◌, cond, List, [], ◌∷◌, sum_by, ◌==◌}
use Rattle.pool.specs.declared.node.Node.{Node}

-- 1 where the two are one node, else 0
unfoldable pub same : ℕ → ℕ → ℕ
same m n = cond (m == n) 1 0

-- how often m stands in a list
abbrev pub times : ℕ → List ℕ → ℕ
times m [] = 0
times m (n ∷ ns) = same m n + times m ns

-- how many of a node's three links lead to m
abbrev pub links : ℕ → Node → ℕ
links m x = same m x.left + same m x.nested + same m x.right

-- how many links of all nodes lead to m
abbrev pub links_to : ℕ → List Node → ℕ
links_to m mem = sum_by (links m) mem
