use Rattle.std.proofs.Common.{sym}
use Rattle.pool.proofs.Nodes.{node_at_lem}
use Rattle.pool.proofs.pool.store.read.Goals as goal

pub returns : goal.returns
returns c = rw c.place.ensures (sym (node_at_lem _ _ c.requires.numbered))
