use Rattle.pool.specs.Node.{node_at}
use Rattle.tree.proofs.inserting.+insert.Given as goal

abbrev pub decreases-insert : goal.decreases-insert
decreases-insert g l = (node_at l.pool.now.nodes.now l.n).height
