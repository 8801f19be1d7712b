-- A sound memory, in which a node carries a balanced tree, can be asked.
use Rattle.std.proofs.Common.{ℕ, List}
use Rattle.pool.specs.Held.{CarriesIn, SoundMemory}
use Rattle.pool.specs.Tree.{Tree}
use Rattle.pool.specs.declared.node.Node.{Node}
use Rattle.tree.specs.Readable.{Readable}
use Rattle.tree.specs.Shape.{Balanced}

pub readable : (mem : List Node) (n : ℕ) → SoundMemory mem → (t : Tree) × CarriesIn mem n t × Balanced t → Readable mem n
readable mem n sound (t, carries, balanced) = record { sound = sound; tree = t; carried = carries; balanced = balanced }
