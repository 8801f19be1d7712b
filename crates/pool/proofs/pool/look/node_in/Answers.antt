use Rattle.pool.proofs.Nodes.{used-numbered, used-within}
use Rattle.pool.proofs.pool.look.node_in.Goals as goal

pub read-requires-clause-numbered : goal.read-requires-clause-numbered
read-requires-clause-numbered c = used-numbered _ _ c.requires

pub read-requires-clause-within : goal.read-requires-clause-within
read-requires-clause-within c = used-within _ _ c.requires
