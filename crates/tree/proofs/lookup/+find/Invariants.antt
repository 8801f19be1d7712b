use Rattle.pool.specs.Node.{node_at}
use Rattle.tree.proofs.lookup.+find.Given as goal

abbrev pub decreases-find : goal.decreases-find
decreases-find g l = (node_at l.nodes.now l.root).height
