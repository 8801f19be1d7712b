use Rattle.register.specs.Calls.{line_handle}
use Rattle.script.proofs.Carrying.{commit_refused, committed, committed-lies}
use Rattle.script.proofs.sitting.commit_sitting.Goals as goal

pub lay_back-requires : goal.lay_back-requires
lay_back-requires c =
    let committing = c.in-Ok.ensures in
    committed-lies c.args.register.now c.commit.new.self c.args.seat (line_handle c.in-Ok.line) committing.kept c.requires committing.told

pub returns-in-Ok-clause-leads : goal.returns-in-Ok-clause-leads
returns-in-Ok-clause-leads c =
    let committing = c.in-Ok.ensures in
    committed c.args.register.now c.commit.new.self c.args.seat c.lay_back.new.register (line_handle c.in-Ok.line) committing.kept c.lay_back.ensures.told committing.told

pub returns-in-Err-clause-leads : goal.returns-in-Err-clause-leads
returns-in-Err-clause-leads c =
    let committing = c.in-Err.ensures in
    commit_refused c.args.register.now c.commit.new.self c.args.seat c.in-Err.refused.handle c.in-Err.refused.why committing.back committing.told
