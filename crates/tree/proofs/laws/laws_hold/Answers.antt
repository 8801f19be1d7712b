use Rattle.tree.proofs.TreeLaws.{tree_laws}
use Rattle.tree.proofs.laws.laws_hold.Goals as goal

pub returns : goal.returns
returns g c = λ 𝓚. tree_laws 𝓚
