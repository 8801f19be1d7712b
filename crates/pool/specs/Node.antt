-- A free node, a node with another count, and the node of a number in a memory.
use Rattle.std.specs.Prelude.{ℕ, zero, suc, List, pos, slice_index_or}
use Rattle.pool.specs.declared.node.Node.{Node}

-- a free node has count 0 and no links; its key's low word names the next free node
abbrev pub free_node : ℕ → Node
free_node next =
    record { key = record { high = 0; low = next }; word = pos 0; left = 0; right = 0; nested = 0; height = 0; count = 0 }

abbrev pub with_count : Node → ℕ → Node
with_count x c =
    record { key = x.key; word = x.word; left = x.left; right = x.right; nested = x.nested; height = x.height; count = c }

-- nodes are numbered from 1; a number that has no node reads as a free node that ends the list
unfoldable pub node_at : List Node → ℕ → Node
node_at mem zero = free_node 0
node_at mem (suc i) = slice_index_or mem i (free_node 0)
