use Rattle.register.proofs.Working.{worked-examples}
use Rattle.register.proofs.worked.worked_examples_hold.Goals as goal

pub returns : goal.returns
returns c = worked-examples
