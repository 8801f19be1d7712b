use Rattle.std.proofs.Common.{Some, None, Option, sym, subst}
use Rattle.script.specs.Commands.{Request}
use Rattle.script.specs.Fields.{left}
use Rattle.script.specs.Runs.{Answered, AnsweredBy}
use Rattle.script.specs.Standings.{Leads}
use Rattle.script.specs.declared.sitting.OpenSitting.{OpenSitting}
use Rattle.script.proofs.runner.answer.Goals as goal

pub returns-in-None-seat-clause-leads : goal.returns-in-None-seat-clause-leads
returns-in-None-seat-clause-leads c =
    subst (λ (seat : Option OpenSitting). Leads c.args.register.now seat c.answer_outside.new.register c.answer_outside.result.1 (λ s s'. Answered s (left c.args.fields) c.answer_outside.result.0 s')) (sym c.in-None-seat.is)
    (subst (λ (o : Option Request). Leads c.args.register.now None c.answer_outside.new.register c.answer_outside.result.1 (λ s s'. AnsweredBy o s c.answer_outside.result.0 s')) c.in-Some.ensures
    c.answer_outside.ensures.leads)

pub returns-in-Some-seat-clause-leads : goal.returns-in-Some-seat-clause-leads
returns-in-Some-seat-clause-leads c =
    subst (λ (seat : Option OpenSitting). Leads c.args.register.now seat c.answer_inside.new.register c.answer_inside.result.1 (λ s s'. Answered s (left c.args.fields) c.answer_inside.result.0 s')) (sym c.in-Some-seat.is)
    (subst (λ (o : Option Request). Leads c.args.register.now (Some c.in-Some-seat.seat) c.answer_inside.new.register c.answer_inside.result.1 (λ s s'. AnsweredBy o s c.answer_inside.result.0 s')) c.in-Some.ensures
    c.answer_inside.ensures.leads)
