use Rattle.std.proofs.Common.{rules}
use Rattle.pool.proofs.state.PoolState.retain.Goals as goal

pub returns-clause-owned : goal.returns-clause-owned
returns-clause-owned c = λ t hs h carries.
    let o = c.over-pool.ensures in
    c.state.ensures.held _ _ (search rules) (c.retain.ensures.owned t hs (o.held hs h) (o.carried _ t carries))
