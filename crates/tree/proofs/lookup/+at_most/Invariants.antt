use Rattle.pool.specs.Node.{node_at}
use Rattle.tree.proofs.lookup.+at_most.Given as goal

abbrev pub decreases-at_most : goal.decreases-at_most
decreases-at_most g l = (node_at l.nodes.now l.root).height
