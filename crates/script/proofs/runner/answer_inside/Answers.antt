use Rattle.std.proofs.Common.{Some, None, Option, sym, refl, ap, subst, w64, SFits, rules, Ok}
use Rattle.std.proofs.lemmas.Int.{to_z-of_z}
use Rattle.register.specs.Calls.{entry_answer}
use Rattle.register.specs.declared.entries.Change.TheVariants as change
use Rattle.script.specs.Commands.{abandons, commits, corrects, records, requested, withdraws}
use Rattle.script.specs.Runs.{Carried}
use Rattle.script.specs.Standings.{Leads, commit_answer, left_open}
use Rattle.script.specs.declared.answer.Reply.TheVariants.{Done}
use Rattle.script.specs.declared.sitting.OpenSitting.{OpenSitting}
use Rattle.script.proofs.Carrying.{abandoned, answered-as, entered, misplaced, told-reading}
use Rattle.script.proofs.Placing.{outside}
use Rattle.script.proofs.runner.answer_inside.Goals as goal

pub returns-in-Record-clause-leads : goal.returns-in-Record-clause-leads
returns-in-Record-clause-leads c =
    let request = records c.in-Record.name.now c.in-Record.measured c.in-Record.reading in
    let fits : SFits w64 c.in-Record.reading = search rules in
    answered-as c.args.register.now c.record-entry.new.self (Some c.args.seat) (Some c.args.seat) (requested c.args.command) request c.answer_to.result c.answer_to.result
    (ap requested c.in-Record.is) refl
    (entered c.args.register.now c.record-entry.new.self c.args.seat request c.in-Record.name.now c.in-Record.measured (change.Record c.in-Record.reading) c.record-entry.result c.answer_to.result refl c.answer_to.ensures
    (told-reading c.args.register.now c.record-entry.new.self c.args.seat c.in-Record.name.now c.in-Record.measured change.Record (entry_answer c.record-entry.result) _ c.in-Record.reading (to_z-of_z w64 c.in-Record.reading fits) c.record-entry.ensures.told))

pub returns-in-Correct-clause-leads : goal.returns-in-Correct-clause-leads
returns-in-Correct-clause-leads c =
    let request = corrects c.in-Correct.name.now c.in-Correct.measured c.in-Correct.reading in
    let fits : SFits w64 c.in-Correct.reading = search rules in
    answered-as c.args.register.now c.correct-entry.new.self (Some c.args.seat) (Some c.args.seat) (requested c.args.command) request c.answer_to-in-Correct.result c.answer_to-in-Correct.result
    (ap requested c.in-Correct.is) refl
    (entered c.args.register.now c.correct-entry.new.self c.args.seat request c.in-Correct.name.now c.in-Correct.measured (change.Correct c.in-Correct.reading) c.correct-entry.result c.answer_to-in-Correct.result refl c.answer_to-in-Correct.ensures
    (told-reading c.args.register.now c.correct-entry.new.self c.args.seat c.in-Correct.name.now c.in-Correct.measured change.Correct (entry_answer c.correct-entry.result) _ c.in-Correct.reading (to_z-of_z w64 c.in-Correct.reading fits) c.correct-entry.ensures.told))

pub returns-in-Withdraw-clause-leads : goal.returns-in-Withdraw-clause-leads
returns-in-Withdraw-clause-leads c =
    let request = withdraws c.in-Withdraw.name.now c.in-Withdraw.measured in
    answered-as c.args.register.now c.withdraw-entry.new.self (Some c.args.seat) (Some c.args.seat) (requested c.args.command) request c.answer_to-in-Withdraw.result c.answer_to-in-Withdraw.result
    (ap requested c.in-Withdraw.is) refl
    (entered c.args.register.now c.withdraw-entry.new.self c.args.seat request c.in-Withdraw.name.now c.in-Withdraw.measured change.Withdraw c.withdraw-entry.result c.answer_to-in-Withdraw.result refl c.answer_to-in-Withdraw.ensures c.withdraw-entry.ensures.told)

pub returns-in-Commit-clause-leads : goal.returns-in-Commit-clause-leads
returns-in-Commit-clause-leads c =
    let after = c.after_commit.ensures in
    subst (λ (seat : Option OpenSitting). Leads c.args.register.now (Some c.args.seat) c.commit_sitting.new.register seat (λ s s'. Carried s (requested c.args.command) c.after_commit.result.0 s')) (sym after.seat)
    (answered-as c.args.register.now c.commit_sitting.new.register (Some c.args.seat) (left_open c.commit_sitting.result) (requested c.args.command) commits c.after_commit.result.0 (commit_answer c.commit_sitting.result)
    (ap requested c.in-Commit.is) after.answer c.commit_sitting.ensures.leads)

pub returns-in-Abandon-clause-leads : goal.returns-in-Abandon-clause-leads
returns-in-Abandon-clause-leads c =
    answered-as c.args.register.now c.abandon_sitting.new.register (Some c.args.seat) None (requested c.args.command) abandons (Ok Done) (Ok Done)
    (ap requested c.in-Abandon.is) refl (abandoned c.args.register.now c.abandon_sitting.new.register c.args.seat c.abandon_sitting.ensures.leads)

pub returns-in_default-clause-leads : goal.returns-in_default-clause-leads
returns-in_default-clause-leads c =
    misplaced c.args.register.now (Some c.args.seat) (requested c.args.command)
    (outside c.args.command c.in_default.not-Record c.in_default.not-Correct c.in_default.not-Withdraw c.in_default.not-Commit c.in_default.not-Abandon)
