use Rattle.pool.specs.Node.{node_at}
use Rattle.tree.proofs.removing.+remove.Given as goal

abbrev pub decreases-remove : goal.decreases-remove
decreases-remove g l = (node_at l.pool.now.nodes.now l.n).height
