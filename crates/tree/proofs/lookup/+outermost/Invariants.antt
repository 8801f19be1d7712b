use Rattle.pool.specs.Node.{node_at}
use Rattle.tree.proofs.lookup.+outermost.Given as goal

abbrev pub decreases-outermost : goal.decreases-outermost
decreases-outermost g l = (node_at l.nodes.now l.root).height
