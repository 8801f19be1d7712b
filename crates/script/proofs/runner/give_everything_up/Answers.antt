use Rattle.std.proofs.Common.{None}
use Rattle.script.specs.Runs.{Left}
use Rattle.script.specs.Standings.{Leads}
use Rattle.script.proofs.Carrying.{ended, left-none, left-some}
use Rattle.script.proofs.runner.give_everything_up.Goals as goal
use Rattle.script.proofs.runner.give_everything_up.Goals.{in-None, in-Some}

pub returns-clause-leads : goal.returns-clause-leads
returns-clause-leads c =
    let gone : Leads c.args.register.now c.args.seat c.match-seat.register None (λ s s'. Left s s'.now) =
    elim c.match-seat.branch [
      | in-None w ↦ left-none c.args.register.now c.match-seat.register c.args.seat w.in-None.is w.register-is
      | in-Some w ↦ left-some c.args.register.now c.match-seat.register w.abandon_sitting.new.register c.args.seat w.in-Some.seat w.in-Some.is w.register-is w.abandon_sitting.ensures.leads
    ] in
    ended c.args.register.now c.match-seat.register c.clear.new.register c.args.seat gone c.clear.ensures.leads
