-- The beginning and the end of a run: where it stands at first, and that its report is finished when everything is given up.
use Rattle.std.proofs.Common.{◌≡◌, ℕ, ◌≤◌, List, length, take, None, Option, Result, is_ok, sym, refl, ap, ◌∙◌, subst, arith}
use Rattle.std.proofs.lemmas.List.{length-take}
use Rattle.kinds.specs.declared.name.Name.{Name}
use Rattle.register.proofs.Moves.{single-new}
use Rattle.register.specs.Registers.{ShownBy}
use Rattle.register.specs.Runs.{Moment}
use Rattle.register.specs.Shown.{Shown, newly_made}
use Rattle.register.specs.declared.register.Register.{Register}
use Rattle.report.specs.Report.{capacity, held, text, used}
use Rattle.report.specs.declared.report.Full.{Full}
use Rattle.report.specs.declared.report.Report.{Report}
use Rattle.script.specs.Lines.{lines_of}
use Rattle.script.specs.Reports.{Writes}
use Rattle.script.specs.Runs.{Answered, Ended, Standing, forward}
use Rattle.script.specs.Scripts.{Finished, RanLines, Reported, outcome}
use Rattle.script.specs.Standings.{Leads, Stands, moment, standing}
use Rattle.script.specs.declared.runner.Progress.{Progress}
use Rattle.script.specs.declared.runner.Stopped.{Stopped}
use Rattle.script.specs.declared.sitting.OpenSitting.{OpenSitting}

-- a register newly made stands outside a sitting
pub stands-new : (r : Register Name) (nodes first : ℕ) → ShownBy forward r (newly_made nodes first) → Stands r None (newly_made nodes first)
stands-new r nodes first shows = record { shows = shows; single = single-new nodes first; seated = tt; laid = refl }

-- a run of the lines after which everything is given up: so many nodes are then in use
pub given-up : (r r₁ r₂ : Register Name) (seat : Option OpenSitting) (script : List ℕ) (report before : Report) (progress : Progress) (ran : Result (Unit {0}) Full)
    → Leads r None r₁ seat (λ s s'. used report ≡ 0 → (end : Moment) → RanLines Answered (Ended end) s script ran progress s' before)
    → Leads r₁ seat r₂ None (λ s s'. Ended s'.now s s'.now.shown.used)
    → used report ≡ 0
    → (s : Shown) → Stands r None s
    → (s' : Standing) × (t : Shown) × ShownBy forward r₂ t × Ended (moment r₂ t) s' t.used × RanLines Answered (Ended (moment r₂ t)) (standing r s None) script ran progress s' before
given-up r r₁ r₂ seat script report before progress ran lines up empty s stands =
    let (s₁, stands₁, through) = lines s stands in
    let (s₂, stands₂, gone) = up s₁ stands₁ in
    (standing r₁ s₁ seat, s₂, stands₂.shows, gone, through empty (moment r₂ s₂))

-- the text of a finished report stands at the front of the bytes that were lent
pub reported : (end : Moment) (start : Standing) (script : List ℕ) (whole : Result (Unit {0}) Full) (answer : Result ℕ Stopped) (report : Report) (before after : List ℕ)
    → Finished Answered (Ended end) start script whole report → answer ≡ outcome (is_ok whole) (used report) → after ≡ held report → length before ≡ capacity report
    → Reported Answered (Ended end) start script answer before after
reported end start script whole answer report before after done says back room =
    let long : length (text report) ≡ used report = length-take (used report) (held report) ∙ (let h : used report ≤ capacity report = report.within in omega arith) in
    record {
      text = text report;
      whole = is_ok whole;
      written = subst (λ (n : ℕ). Writes Answered (Ended end) n 0 0 start (lines_of script) (text report) (is_ok whole)) (sym room) done;
      answer = says ∙ ap (λ (n : ℕ). outcome (is_ok whole) n) (sym long);
      front = ap (λ (bytes : List ℕ). take (length (text report)) bytes) back ∙ ap (λ (n : ℕ). take n (held report)) long;
      room = ap length back ∙ sym room;
    }
