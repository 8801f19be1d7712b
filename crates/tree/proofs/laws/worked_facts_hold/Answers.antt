use Rattle.tree.proofs.Worked.{worked-facts}
use Rattle.tree.proofs.laws.worked_facts_hold.Goals as goal

pub returns : goal.returns
returns c = worked-facts
