use Rattle.std.proofs.Common.{rules}
use Rattle.pool.proofs.state.PoolState.release.Goals as goal

pub returns-clause-owned : goal.returns-clause-owned
returns-clause-owned c = λ t hs h. c.state.ensures.held _ _ (search rules) (c.release.ensures.owned t hs (c.over-pool.ensures.held _ h))
