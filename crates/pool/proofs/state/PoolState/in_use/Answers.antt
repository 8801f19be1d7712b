use Rattle.pool.proofs.Reached.{accounted}
use Rattle.pool.proofs.state.PoolState.in_use.Goals as goal

pub returns-clause-accounted : goal.returns-clause-accounted
returns-clause-accounted c mem roots = accounted mem _ _ roots
