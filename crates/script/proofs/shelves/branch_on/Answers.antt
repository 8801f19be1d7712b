use Rattle.std.proofs.Common.{None, sym, subst, Ok, Err}
use Rattle.register.specs.Calls as call
use Rattle.register.specs.Calls.{done, handed, line_handle, refused}
use Rattle.register.specs.declared.handle.Parts.{Parts as Handle}
use Rattle.register.specs.Calls.{Line}
use Rattle.script.specs.Answers.{answer_to}
use Rattle.script.specs.Commands.{branches}
use Rattle.script.specs.Does.{branch_refused, branch_retired, branch_stowed, branch_unfetched}
use Rattle.script.specs.Standings.{Leads, MayLie, Resting}
use Rattle.script.specs.declared.answer.Reply.TheVariants.{Done}
use Rattle.register.proofs.Passing.{passed}
use Rattle.script.specs.Runs.{Carried}
use Rattle.script.proofs.Carrying.{both, both-then, branched-rests, carried, fetched-lies, last, lies-branched, lies-refused, more, runs_of, told_of, why-of}
use Rattle.script.proofs.shelves.branch_on.Goals as goal

pub returns-in_err-line-clause-leads : goal.returns-in_err-line-clause-leads
returns-in_err-line-clause-leads c =
    passed (λ r. Leads c.args.register.now None c.fetch.new.self None (λ s s'. Carried s (branches c.args.from c.args.to) (answer_to r) s')) _ _ c.from_residual.ensures.1
    (carried c.args.register.now c.fetch.new.self None (branches c.args.from c.args.to) _ (Err c.in_err-line.field-0.0)
    (branch_unfetched c.args.from c.args.to c.in_err-line.field-0.0)
    (last c.args.register.now c.fetch.new.self (call.fetches c.args.from) (refused c.in_err-line.field-0.0) c.in_err-line.ensures.told))

pub lay_back-requires : goal.lay_back-requires
lay_back-requires c =
    let old = line_handle c.in_ok-line.line in
    let branching = c.in_Err-lines.ensures in
    subst (λ (z : Line). MayLie c.branch-lines.new.self (line_handle z) c.args.from) (sym branching.back)
    (lies-refused c.fetch.new.self c.branch-lines.new.self old c.args.from (call.branches old) c.in_Err-lines.refused.why
    (fetched-lies c.args.register.now c.fetch.new.self c.args.from old c.requires c.in_ok-line.ensures.told)
    branching.told)

pub returns-in_Err-lines-clause-leads : goal.returns-in_Err-lines-clause-leads
returns-in_Err-lines-clause-leads c =
    let old = line_handle c.in_ok-line.line in
    let branching = c.in_Err-lines.ensures in
    carried c.args.register.now c.lay_back.new.register None (branches c.args.from c.args.to) _ (Err c.in_Err-lines.refused.why)
    (branch_refused c.args.from c.args.to old c.in_Err-lines.refused.why)
    (more c.args.register.now c.fetch.new.self c.lay_back.new.register (call.fetches c.args.from) (handed old) _ c.in_ok-line.ensures.told
    (more c.fetch.new.self c.branch-lines.new.self c.lay_back.new.register (call.branches old) (refused c.in_Err-lines.refused.why) _ branching.told
    (last c.branch-lines.new.self c.lay_back.new.register (call.stows old c.args.from) done
    (told_of c.branch-lines.new.self c.lay_back.new.register (λ (h : Handle). call.stows h c.args.from) done c.in_Err-lines.refused.handle c.in_ok-line.line branching.back c.lay_back.ensures.told))))

pub stow_both-requires : goal.stow_both-requires
stow_both-requires c =
    let old = line_handle c.in_ok-line.line in
    let branching = c.in_Ok-lines.ensures in
    subst (λ (z : Line). MayLie c.branch-lines.new.self (line_handle z) c.args.from) (sym branching.back)
    (lies-branched c.fetch.new.self c.branch-lines.new.self old (line_handle c.in_Ok-lines.lines.1) c.args.from
    (fetched-lies c.args.register.now c.fetch.new.self c.args.from old c.requires c.in_ok-line.ensures.told)
    branching.told)

pub end_refused-requires : goal.end_refused-requires
end_refused-requires c =
    let old = line_handle c.in_ok-line.line in
    let new = line_handle c.in_Ok-lines.lines.1 in
    let branching = c.in_Ok-lines.ensures in
    let stowing = c.in-Err.ensures in
    subst (λ (z : Line). Resting c.stow_both.new.register (line_handle z)) (sym stowing.back)
    (branched-rests c.fetch.new.self c.branch-lines.new.self c.stow_both.new.register old new c.args.from c.args.to c.in-Err.refused.why
    (fetched-lies c.args.register.now c.fetch.new.self c.args.from old c.requires c.in_ok-line.ensures.told)
    branching.told
    (runs_of c.branch-lines.new.self c.stow_both.new.register c.in_Ok-lines.lines.0 c.in_ok-line.line c.args.from (call.stows new c.args.to, refused c.in-Err.refused.why) branching.back stowing.told))

pub returns-in-Ok-clause-leads : goal.returns-in-Ok-clause-leads
returns-in-Ok-clause-leads c =
    let old = line_handle c.in_ok-line.line in
    let new = line_handle c.in_Ok-lines.lines.1 in
    let branching = c.in_Ok-lines.ensures in
    let stowing = c.in-Ok.ensures in
    carried c.args.register.now c.stow_both.new.register None (branches c.args.from c.args.to) _ (Ok Done)
    (branch_stowed c.args.from c.args.to old new)
    (more c.args.register.now c.fetch.new.self c.stow_both.new.register (call.fetches c.args.from) (handed old) _ c.in_ok-line.ensures.told
    (more c.fetch.new.self c.branch-lines.new.self c.stow_both.new.register (call.branches old) (handed new) _ branching.told
    (both c.branch-lines.new.self c.stow_both.new.register (call.stows old c.args.from, done) (call.stows new c.args.to, done)
    (runs_of c.branch-lines.new.self c.stow_both.new.register c.in_Ok-lines.lines.0 c.in_ok-line.line c.args.from (call.stows new c.args.to, done) branching.back stowing.told))))

pub returns-in-Err-clause-leads : goal.returns-in-Err-clause-leads
returns-in-Err-clause-leads c =
    let old = line_handle c.in_ok-line.line in
    let new = line_handle c.in_Ok-lines.lines.1 in
    let branching = c.in_Ok-lines.ensures in
    let stowing = c.in-Err.ensures in
    let ending = c.end_refused.ensures in
    let why = c.in-Err.refused.why in
    let ended = told_of c.stow_both.new.register c.end_refused.new.register call.retires done c.in-Err.refused.handle c.in_Ok-lines.lines.1 stowing.back ending.told in
    carried c.args.register.now c.end_refused.new.register None (branches c.args.from c.args.to) _ (Err c.end_refused.result)
    (why-of (branches c.args.from c.args.to) _ c.end_refused.result why ending.why (branch_retired c.args.from c.args.to old new why))
    (more c.args.register.now c.fetch.new.self c.end_refused.new.register (call.fetches c.args.from) (handed old) _ c.in_ok-line.ensures.told
    (more c.fetch.new.self c.branch-lines.new.self c.end_refused.new.register (call.branches old) (handed new) _ branching.told
    (both-then c.branch-lines.new.self c.stow_both.new.register c.end_refused.new.register (call.stows old c.args.from, done) (call.stows new c.args.to, refused why) _
    (runs_of c.branch-lines.new.self c.stow_both.new.register c.in_Ok-lines.lines.0 c.in_ok-line.line c.args.from (call.stows new c.args.to, refused why) branching.back stowing.told)
    (last c.stow_both.new.register c.end_refused.new.register (call.retires new) done ended))))
