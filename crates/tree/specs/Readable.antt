-- What a question to a tree needs.
use Rattle.std.specs.Prelude.{ℕ, List}
use Rattle.pool.specs.Held.{CarriesIn, SoundMemory}
use Rattle.pool.specs.Tree.{Tree}
use Rattle.pool.specs.declared.node.Node.{Node}
use Rattle.tree.specs.Shape.{Balanced}

-- a sound memory in which the node n carries a balanced tree
pub record Readable (mem : List Node) (n : ℕ) : Type 0 where
  pub sound : SoundMemory mem
  pub tree : Tree
  pub carried : CarriesIn mem n tree
  pub balanced : Balanced tree
