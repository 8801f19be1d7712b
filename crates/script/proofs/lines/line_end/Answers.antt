use Rattle.script.proofs.Cuts.{line-at}
use Rattle.script.proofs.lines.line_end.Goals as goal

pub returns-clause-line : goal.returns-clause-line
returns-clause-line c = λ some. line-at c.args.script.now c.args.start c.length_before.result some c.length_before.ensures.value
