use Rattle.std.proofs.Common.{refl, arith}
use Rattle.script.proofs.Cuts.{line_given}
use Rattle.script.proofs.script_lines.ScriptLinesIterator.next.Goals as goal

pub returns-clause-steps : goal.returns-clause-steps
returns-clause-steps c =
    let end = c.line_end-end in
    let line = c.new-line in
    (line_given c.args.self.now line.result end.result line.ensures.front line.ensures.place (omega (arith, end.ensures.after, c.if-self.false)) end.ensures.within (end.ensures.line (omega (arith, c.if-self.false))), refl)
