use Rattle.std.proofs.Common.{subst, take}
use Rattle.script.specs.Whole.{RanScript}
use Rattle.script.proofs.audit.run_audit.Goals as goal

pub returns-clause-ran : goal.returns-clause-ran
returns-clause-ran c = λ short.
    (take 65535 c.run.new.nodes, subst (λ first. RanScript 1024 first c.args.script.now c.run.result c.args.report.now c.run.new.out (take 65535 c.run.new.nodes)) c.first_serial.ensures.serial (c.run.ensures.ran short))
