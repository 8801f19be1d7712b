use Rattle.pool.specs.Node.{node_at}
use Rattle.tree.proofs.lookup.+after.Given as goal

abbrev pub decreases-after : goal.decreases-after
decreases-after g l = (node_at l.nodes.now l.root).height
