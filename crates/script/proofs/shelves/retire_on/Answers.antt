use Rattle.std.proofs.Common.{None, Ok, Err}
use Rattle.register.specs.Calls as call
use Rattle.register.specs.Calls.{done, handed, line_handle, refused}
use Rattle.script.specs.Answers.{answer_to}
use Rattle.script.specs.Commands.{retires}
use Rattle.script.specs.Does.{retire_unfetched, retired}
use Rattle.script.specs.declared.answer.Reply.TheVariants.{Done}
use Rattle.register.proofs.Passing.{passed}
use Rattle.script.specs.Runs.{Carried}
use Rattle.script.specs.Standings.{Leads}
use Rattle.script.proofs.Carrying.{carried, fetched-lies, last, lies-resting, more}
use Rattle.script.proofs.shelves.retire_on.Goals as goal

pub returns-in_err-line-clause-leads : goal.returns-in_err-line-clause-leads
returns-in_err-line-clause-leads c =
    passed (λ r. Leads c.args.register.now None c.fetch.new.self None (λ s s'. Carried s (retires c.args.shelf) (answer_to r) s')) _ _ c.from_residual.ensures.1
    (carried c.args.register.now c.fetch.new.self None (retires c.args.shelf) _ (Err c.in_err-line.field-0.0)
    (retire_unfetched c.args.shelf c.in_err-line.field-0.0)
    (last c.args.register.now c.fetch.new.self (call.fetches c.args.shelf) (refused c.in_err-line.field-0.0) c.in_err-line.ensures.told))

pub end_line-requires : goal.end_line-requires
end_line-requires c =
    let line = line_handle c.in_ok-line.line in
    lies-resting c.fetch.new.self line c.args.shelf
    (fetched-lies c.args.register.now c.fetch.new.self c.args.shelf line c.requires c.in_ok-line.ensures.told)

pub returns-clause-leads : goal.returns-clause-leads
returns-clause-leads c =
    let line = line_handle c.in_ok-line.line in
    carried c.args.register.now c.end_line.new.register None (retires c.args.shelf) _ (Ok Done)
    (retired c.args.shelf line)
    (more c.args.register.now c.fetch.new.self c.end_line.new.register (call.fetches c.args.shelf) (handed line) _ c.in_ok-line.ensures.told
    (last c.fetch.new.self c.end_line.new.register (call.retires line) done c.end_line.ensures.told))
