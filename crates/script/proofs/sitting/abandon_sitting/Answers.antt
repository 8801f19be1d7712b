use Rattle.register.specs.Calls.{line_handle}
use Rattle.script.proofs.Carrying.{abandoned-lies, left}
use Rattle.script.proofs.sitting.abandon_sitting.Goals as goal

pub lay_back-requires : goal.lay_back-requires
lay_back-requires c =
    let gave = c.give_up-line.ensures in
    abandoned-lies c.args.register.now c.give_up-line.new.register c.args.seat (line_handle c.give_up-line.result) gave.same c.requires gave.told

pub returns-clause-leads : goal.returns-clause-leads
returns-clause-leads c =
    let gave = c.give_up-line.ensures in
    left c.args.register.now c.give_up-line.new.register c.args.seat c.lay_back.new.register (line_handle c.give_up-line.result) gave.same c.lay_back.ensures.told gave.told
