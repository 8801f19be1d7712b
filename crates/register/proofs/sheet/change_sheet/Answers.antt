use Rattle.std.proofs.Common.{rules}
use Rattle.register.proofs.sheet.change_sheet.Goals as goal

pub returns-clause-owned : goal.returns-clause-owned
returns-clause-owned g c = λ change t hs stands h.
    c.state.ensures.held _ _ (search rules) (c.change_in-sheet.ensures.owned change t hs stands (c.over-pool.ensures.held _ h))
