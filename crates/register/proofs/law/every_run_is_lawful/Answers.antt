use Rattle.tree.proofs.Bound.{kind_of}
use Rattle.register.proofs.LawOfRuns.{law-of-runs}
use Rattle.register.proofs.law.every_run_is_lawful.Goals as goal

pub returns : goal.returns
returns g c = law-of-runs (kind_of g.met.N.Key g.met.N.Ord.total) g.N.NameOrder.named g.N.NameOrder.name g.met.N.NameOrder.kept
