use Rattle.std.proofs.Common.{None, Err}
use Rattle.register.specs.Calls as call
use Rattle.register.specs.Calls.{total, done, total_answer, handed, line_handle, refused}
use Rattle.script.specs.Commands.{asks}
use Rattle.script.specs.Does.{ask_unfetched, asked}
use Rattle.register.proofs.Passing.{passed}
use Rattle.script.specs.Runs.{Carried}
use Rattle.script.specs.Standings.{Leads}
use Rattle.script.proofs.Carrying.{carried, fetched-lies, last, more, told-only}
use Rattle.script.proofs.shelves.total_on.Goals as goal

pub returns-in_err-line-clause-leads : goal.returns-in_err-line-clause-leads
returns-in_err-line-clause-leads c =
    passed (λ r. Leads c.args.register.now None c.fetch.new.self None (λ s s'. Carried s (asks c.args.shelf c.args.recorded (total c.args.name.now c.args.from c.args.to)) r s')) _ _ c.from_residual.ensures.1
    (carried c.args.register.now c.fetch.new.self None (asks c.args.shelf c.args.recorded (total c.args.name.now c.args.from c.args.to)) _ (Err c.in_err-line.field-0.0)
    (ask_unfetched c.args.shelf c.args.recorded (total c.args.name.now c.args.from c.args.to) c.in_err-line.field-0.0)
    (last c.args.register.now c.fetch.new.self (call.fetches c.args.shelf) (refused c.in_err-line.field-0.0) c.in_err-line.ensures.told))

pub lay_back-requires : goal.lay_back-requires
lay_back-requires c =
    fetched-lies c.args.register.now c.fetch.new.self c.args.shelf (line_handle c.in_ok-line.line) c.requires c.in_ok-line.ensures.told

pub returns-clause-leads : goal.returns-clause-leads
returns-clause-leads c =
    let line = line_handle c.in_ok-line.line in
    let question = (total c.args.name.now c.args.from c.args.to) in
    let fetched = c.fetch.new.self in
    let answer = total_answer c.total.result in
    carried c.args.register.now c.lay_back.new.register None (asks c.args.shelf c.args.recorded question) _ c.total_answer-answer.result
    (asked c.args.shelf c.args.recorded question line answer c.total_answer-answer.result c.total_answer-answer.ensures)
    (more c.args.register.now fetched c.lay_back.new.register (call.fetches c.args.shelf) (handed line) _ c.in_ok-line.ensures.told
    (more fetched fetched c.lay_back.new.register (call.asks line c.args.recorded question) answer _ (told-only fetched (call.asks line c.args.recorded question) answer c.total.ensures)
    (last fetched c.lay_back.new.register (call.stows line c.args.shelf) done c.lay_back.ensures.told)))
