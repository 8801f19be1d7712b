use Rattle.std.proofs.Common.{None, sym, subst, Err}
use Rattle.register.specs.Calls as call
use Rattle.register.specs.Calls.{done, handed, line_handle, refused}
use Rattle.register.specs.declared.handle.Parts.{Parts as Handle}
use Rattle.register.specs.Calls.{Line}
use Rattle.script.specs.Answers.{answer_to}
use Rattle.script.specs.Commands.{begins}
use Rattle.script.specs.Does.{begin_refused, begin_unfetched}
use Rattle.script.specs.Standings.{Leads, begun_by, MayLie}
use Rattle.register.proofs.Passing.{passed}
use Rattle.script.specs.Runs.{Carried}
use Rattle.script.proofs.Carrying.{begun, carried, fetched-lies, last, lies-refused, more, told_of}
use Rattle.script.proofs.sitting.begin_on.Goals as goal

pub returns-in_err-line-clause-leads : goal.returns-in_err-line-clause-leads
returns-in_err-line-clause-leads c =
    passed (λ r. Leads c.args.register.now None c.fetch.new.self (begun_by r) (λ s s'. Carried s (begins c.args.shelf c.args.recorded) (answer_to r) s')) _ _ c.from_residual.ensures.1
    (carried c.args.register.now c.fetch.new.self None (begins c.args.shelf c.args.recorded) _ (Err c.in_err-line.field-0.0)
    (begin_unfetched c.args.shelf c.args.recorded c.in_err-line.field-0.0)
    (last c.args.register.now c.fetch.new.self (call.fetches c.args.shelf) (refused c.in_err-line.field-0.0) c.in_err-line.ensures.told))

pub lay_back-requires : goal.lay_back-requires
lay_back-requires c =
    let line = line_handle c.in_ok-line.line in
    let beginning = c.in-Err.ensures in
    subst (λ (z : Line). MayLie c.begin.new.self (line_handle z) c.args.shelf) (sym beginning.back)
    (lies-refused c.fetch.new.self c.begin.new.self line c.args.shelf (call.begins line c.args.recorded) c.in-Err.refused.why
    (fetched-lies c.args.register.now c.fetch.new.self c.args.shelf line c.requires c.in_ok-line.ensures.told)
    beginning.told)

pub returns-in-Ok-clause-leads : goal.returns-in-Ok-clause-leads
returns-in-Ok-clause-leads c =
    let beginning = c.in-Ok.ensures in
    begun c.args.register.now c.fetch.new.self c.begin.new.self c.args.shelf c.args.recorded (line_handle c.in_ok-line.line) c.in-Ok.sitting beginning.kept c.in_ok-line.ensures.told beginning.told

pub returns-in-Err-clause-leads : goal.returns-in-Err-clause-leads
returns-in-Err-clause-leads c =
    let line = line_handle c.in_ok-line.line in
    let beginning = c.in-Err.ensures in
    carried c.args.register.now c.lay_back.new.register None (begins c.args.shelf c.args.recorded) _ (Err c.in-Err.refused.why)
    (begin_refused c.args.shelf c.args.recorded line c.in-Err.refused.why)
    (more c.args.register.now c.fetch.new.self c.lay_back.new.register (call.fetches c.args.shelf) (handed line) _ c.in_ok-line.ensures.told
    (more c.fetch.new.self c.begin.new.self c.lay_back.new.register (call.begins line c.args.recorded) (refused c.in-Err.refused.why) _ beginning.told
    (last c.begin.new.self c.lay_back.new.register (call.stows line c.args.shelf) done
    (told_of c.begin.new.self c.lay_back.new.register (λ (h : Handle). call.stows h c.args.shelf) done c.in-Err.refused.handle c.in_ok-line.line beginning.back c.lay_back.ensures.told))))
