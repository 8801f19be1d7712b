use Rattle.std.proofs.Common.{None, sym, subst, Ok, Err}
use Rattle.register.specs.Calls as call
use Rattle.register.specs.Calls.{done, handed, line_handle, refused}
use Rattle.register.specs.Calls.{Line}
use Rattle.script.specs.Answers.{answer_to}
use Rattle.script.specs.Commands.{opens}
use Rattle.script.specs.Does.{open_refused, open_retired, open_stowed}
use Rattle.script.specs.Standings.{Leads, Resting}
use Rattle.script.specs.declared.answer.Reply.TheVariants.{Done}
use Rattle.register.proofs.Passing.{passed}
use Rattle.script.specs.Runs.{Carried}
use Rattle.script.proofs.Carrying.{carried, last, more, opened-rests, rests-refused, told_of, why-of}
use Rattle.script.proofs.shelves.open_on.Goals as goal

pub returns-in_err-line-clause-leads : goal.returns-in_err-line-clause-leads
returns-in_err-line-clause-leads c =
    passed (λ r. Leads c.args.register.now None c.open_line.new.self None (λ s s'. Carried s (opens c.args.shelf) (answer_to r) s')) _ _ c.from_residual.ensures.1
    (carried c.args.register.now c.open_line.new.self None (opens c.args.shelf) _ (Err c.in_err-line.field-0.0)
    (open_refused c.args.shelf c.in_err-line.field-0.0)
    (last c.args.register.now c.open_line.new.self call.opens (refused c.in_err-line.field-0.0) c.in_err-line.ensures.told))

pub end_refused-requires : goal.end_refused-requires
end_refused-requires c =
    let line = c.in_ok-line.line in
    let stowing = c.in-Err.ensures in
    subst (λ (z : Line). Resting c.stow.new.self (line_handle z)) (sym stowing.back)
    (rests-refused c.open_line.new.self c.stow.new.self (line_handle line) (call.stows (line_handle line) c.args.shelf) c.in-Err.refused.why
    (opened-rests c.args.register.now c.open_line.new.self (line_handle line) c.requires c.in_ok-line.ensures.told)
    stowing.told)

pub returns-in-Ok-clause-leads : goal.returns-in-Ok-clause-leads
returns-in-Ok-clause-leads c =
    let new = line_handle c.in_ok-line.line in
    carried c.args.register.now c.stow.new.self None (opens c.args.shelf) _ (Ok Done)
    (open_stowed c.args.shelf new)
    (more c.args.register.now c.open_line.new.self c.stow.new.self call.opens (handed new) _ c.in_ok-line.ensures.told
    (last c.open_line.new.self c.stow.new.self (call.stows new c.args.shelf) done c.in-Ok.ensures.told))

pub returns-in-Err-clause-leads : goal.returns-in-Err-clause-leads
returns-in-Err-clause-leads c =
    let new = line_handle c.in_ok-line.line in
    let stowing = c.in-Err.ensures in
    let ending = c.end_refused.ensures in
    carried c.args.register.now c.end_refused.new.register None (opens c.args.shelf) _ (Err c.end_refused.result)
    (why-of (opens c.args.shelf) _ c.end_refused.result c.in-Err.refused.why ending.why (open_retired c.args.shelf new c.in-Err.refused.why))
    (more c.args.register.now c.open_line.new.self c.end_refused.new.register call.opens (handed new) _ c.in_ok-line.ensures.told
    (more c.open_line.new.self c.stow.new.self c.end_refused.new.register (call.stows new c.args.shelf) (refused c.in-Err.refused.why) _ stowing.told
    (last c.stow.new.self c.end_refused.new.register (call.retires new) done
    (told_of c.stow.new.self c.end_refused.new.register call.retires done c.in-Err.refused.handle c.in_ok-line.line stowing.back ending.told))))
