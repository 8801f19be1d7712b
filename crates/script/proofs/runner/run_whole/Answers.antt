use Rattle.std.proofs.Common.{ℕ, None, Result, pos, ap, ◌∙◌, subst}
use Rattle.report.specs.declared.report.Full.{Full}
use Rattle.report.specs.declared.report.Piece.TheVariants.{Number}
use Rattle.register.proofs.Passing.{passed}
use Rattle.script.specs.Runs.{Answered, Ended}
use Rattle.script.specs.Scripts.{Finished, RanLines}
use Rattle.script.specs.Standings.{moment, standing}
use Rattle.script.proofs.Running.{finished-cut, finished-end}
use Rattle.script.proofs.Starting.{given-up}
use Rattle.script.proofs.runner.run_whole.Goals as goal

pub returns-in_err-ran-clause-finished : goal.returns-in_err-ran-clause-finished
returns-in_err-ran-clause-finished c = λ s stands empty.
    let first = c.args.register.now in
    let last = c.give_everything_up.new.register in
    let ran = c.run_lines-ran.new.self in
    let (s', t, shows, up, through) = given-up first c.run_lines-ran.new.register last c.run_lines-ran.result.1 c.args.script.now c.args.report.now c.run_lines-ran.new.report ran c.run_lines-ran.result.0
    c.run_lines-ran.ensures.ran c.give_everything_up.ensures.leads empty s stands in (
      t,
      shows,
      up.given_back,
      passed (λ r. Finished Answered (Ended (moment last t)) (standing first s None) c.args.script.now r c.run_lines-ran.new.report) c.from_residual.result _ c.from_residual.ensures.1
          (finished-cut Answered (Ended (moment last t)) (standing first s None) s' c.args.script.now t.used up ran c.run_lines-ran.new.report c.in_err-ran.field-0.0
          (subst (λ (r : Result (Unit {0}) Full). RanLines Answered (Ended (moment last t)) (standing first s None) c.args.script.now r ran s' c.run_lines-ran.new.report) c.in_err-ran.was through)),
    )

pub returns-clause-finished : goal.returns-clause-finished
returns-clause-finished c = λ s stands empty.
    let first = c.args.register.now in
    let last = c.give_everything_up.new.register in
    let ran = c.run_lines-ran.new.self in
    let (s', t, shows, up, through) = given-up first c.run_lines-ran.new.register last c.run_lines-ran.result.1 c.args.script.now c.args.report.now c.run_lines-ran.new.report ran c.run_lines-ran.result.0
    c.run_lines-ran.ensures.ran c.give_everything_up.ensures.leads empty s stands in (
      t,
      shows,
      up.given_back,
      finished-end Answered (Ended (moment last t)) (standing first s None) s' c.args.script.now t.used up ran c.run_lines-ran.new.report _
          (subst (λ (r : Result (Unit {0}) Full). RanLines Answered (Ended (moment last t)) (standing first s None) c.args.script.now r ran s' c.run_lines-ran.new.report) c.in_ok-ran.was through)
          c.line.new.self c.line.ensures.same.kept c.from.result c.from-2.result c.from-3.result c.from.ensures c.from-2.ensures (c.from-3.ensures ∙ ap (λ (n : ℕ). Number (pos n)) (c.nodes_in_use.ensures t shows)) c.line.result c.line.ensures.lined,
    )
