use Rattle.std.proofs.Common.{Some, None, refl, ap, Ok, Err}
use Rattle.script.specs.Commands.{begins, requested, tallies}
use Rattle.script.specs.declared.answer.Reply.TheVariants.{Done, Counted}
use Rattle.script.proofs.Carrying.{answered-as, misplaced, tallied}
use Rattle.script.proofs.Placing.{inside}
use Rattle.script.proofs.runner.answer_outside.Goals as goal

pub returns-in-Ok-clause-leads : goal.returns-in-Ok-clause-leads
returns-in-Ok-clause-leads c =
    answered-as c.args.register.now c.begin_on.new.register None (Some c.in-Ok.seat) (requested c.args.command) (begins c.in-Begin.shelf c.in-Begin.recorded) (Ok Done) (Ok Done)
    (ap requested c.in-Begin.is) refl c.in-Ok.ensures.leads

pub returns-in-Err-clause-leads : goal.returns-in-Err-clause-leads
returns-in-Err-clause-leads c =
    answered-as c.args.register.now c.begin_on.new.register None None (requested c.args.command) (begins c.in-Begin.shelf c.in-Begin.recorded) (Err c.in-Err.why) (Err c.in-Err.why)
    (ap requested c.in-Begin.is) refl c.in-Err.ensures.leads

pub returns-in-Tally-clause-leads : goal.returns-in-Tally-clause-leads
returns-in-Tally-clause-leads c =
    answered-as c.args.register.now c.args.register.now None None (requested c.args.command) tallies (Ok (Counted c.tally.result)) (Ok (Counted c.tally.result))
    (ap requested c.in-Tally.is) refl (tallied c.args.register.now c.tally.result c.tally.ensures.told)

pub returns-in_default-clause-leads : goal.returns-in_default-clause-leads
returns-in_default-clause-leads c =
    misplaced c.args.register.now None (requested c.args.command)
    (inside c.args.command c.in_default.not-Open c.in_default.not-Branch c.in_default.not-Begin c.in_default.not-AsOf c.in_default.not-Total c.in_default.not-Retire c.in_default.not-Tally)
