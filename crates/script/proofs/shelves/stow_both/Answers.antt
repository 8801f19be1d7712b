use Rattle.register.specs.Calls as call
use Rattle.register.specs.Calls.{done, done_answer, line_handle}
use Rattle.script.proofs.Carrying.{last, more}
use Rattle.script.proofs.shelves.stow_both.Goals as goal

pub returns-clause-told : goal.returns-clause-told
returns-clause-told c =
    let laid = c.lay_back.new.register in
    let back = more c.args.register.now laid c.stow.new.self (call.stows (line_handle c.args.old) c.args.from) done _ c.lay_back.ensures.told
    (last laid c.stow.new.self (call.stows (line_handle c.args.new) c.args.to) (done_answer c.stow.result) c.stow.ensures.told) in
    back.leads
