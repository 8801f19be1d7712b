use Rattle.pool.specs.Node.{node_at}
use Rattle.tree.proofs.range.+total_between.Given as goal

abbrev pub decreases-total_between : goal.decreases-total_between
decreases-total_between g l = (node_at l.nodes.now l.root).height
