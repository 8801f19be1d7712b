use Rattle.std.proofs.Common.{rules}
use Rattle.register.proofs.sittings.add_stage.Goals as goal

pub returns-clause-owned : goal.returns-clause-owned
returns-clause-owned c = λ t nested hs h. c.state.ensures.held _ _ (search rules) (c.put_stage-stages.ensures.owned t nested hs (c.over-pool.ensures.held _ h))
