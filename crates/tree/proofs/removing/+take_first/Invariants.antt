use Rattle.pool.specs.Node.{node_at}
use Rattle.tree.proofs.removing.+take_first.Given as goal

abbrev pub decreases-take_first : goal.decreases-take_first
decreases-take_first l = (node_at l.pool.now.nodes.now l.n).height
