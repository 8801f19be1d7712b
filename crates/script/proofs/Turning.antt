-- The turns of a run through the lines of a script, from where the run stands to where it stands then.
use Rattle.std.proofs.Common.{◌≡◌, ℕ, ◌+◌, ◌<◌, true, false, List, [], ◌∷◌, length, None, Option, Ok, Result, is_err, subst}
use Rattle.kinds.specs.declared.name.Name.{Name}
use Rattle.register.specs.declared.register.Register.{Register}
use Rattle.report.specs.Report.{capacity, text, used}
use Rattle.report.specs.declared.report.Full.{Full}
use Rattle.report.specs.declared.report.Report.{Report}
use Rattle.register.specs.Runs.{Moment}
use Rattle.script.specs.Fields.{fields_of}
use Rattle.script.specs.Lines.{lines_of}
use Rattle.script.specs.Runs.{Answered, Ended, Standing}
use Rattle.script.specs.Scripts.{Along, RanLine, RanLines}
use Rattle.script.specs.Standings.{Leads, standing}
use Rattle.script.specs.declared.runner.Progress.{Progress}
use Rattle.script.specs.declared.sitting.OpenSitting.{OpenSitting}
use Rattle.script.proofs.Running.{along-start, lines-cut, turn-cut, turn-empty, turn-line}

-- the run is on its way from s to s', where the report was empty at first, and these are its lines to come
abbrev pub OnWay : (first report : Report) (script : List ℕ) (left : List (List ℕ)) (lines refused : ℕ) → Standing → Standing → Type 0
OnWay first report script left lines refused s s' =
    used first ≡ 0 → (end : Moment) → Along Answered (Ended end) (capacity report) s script (text report) lines refused s' left

pub on-way : (report : Report) (script : List ℕ) (r : Register Name) → Leads r None r None (OnWay report report script (lines_of script) 0 0)
on-way report script r s stands = (s, stands, λ empty end. along-start Answered (Ended end) report (standing r s None) script empty)

module _ (r r₁ : Register Name) (seat : Option OpenSitting) (first before : Report) (script : List ℕ) (left : List (List ℕ)) (lines refused : ℕ)
    (way : Leads r None r₁ seat (OnWay first before script left lines refused)) where
  -- the first of the lines to come
  module _ (line : List ℕ) (behind : List (List ℕ)) (step : left ≡ line ∷ behind) where
    pub turned-empty : length line ≡ 0 → Leads r None r₁ seat (OnWay first before script behind (lines + 1) refused)
    turned-empty none s stands =
        let (s₁, stands₁, along) = way s stands in
        (s₁, stands₁, λ empty end. turn-empty Answered (Ended end) (standing r s None) script line left behind step lines refused (standing r₁ s₁ seat) before (along empty end) none)

    module _ (some : 0 < length line) (after : Report) (same-room : capacity after ≡ capacity before) (fields : List (List ℕ))
        (read : fields ≡ fields_of line) (r₂ : Register Name) (seat₂ : Option OpenSitting) (result : Result (Unit {0}) Full) (refused' : ℕ)
        (ran : Leads r₁ seat r₂ seat₂ (λ s s'. RanLine Answered (lines + 1) fields result s s' refused refused' before after)) where
      pub turned-line : is_err result ≡ false → Leads r None r₂ seat₂ (OnWay first after script behind (lines + 1) refused')
      turned-line ok s stands =
          let (s₁, stands₁, along) = way s stands in
          let (s₂, stands₂, here) = ran s₁ stands₁ in (
            s₂,
            stands₂,
            λ empty end.
                turn-line Answered (Ended end) (standing r s None) script line left behind step lines refused (standing r₁ s₁ seat) before (along empty end) some after same-room fields read refused' (standing r₂ s₂ seat₂) result here ok,
          )

      pub turned-cut : (progress : Progress) → is_err result ≡ true → Leads r None r₂ seat₂ (λ s s'. used first ≡ 0 → (end : Moment) → RanLines Answered (Ended end) s script result progress s' after)
      turned-cut progress cut s stands =
          let (s₁, stands₁, along) = way s stands in
          let (s₂, stands₂, here) = ran s₁ stands₁ in (
            s₂,
            stands₂,
            λ empty end.
                lines-cut Answered (Ended end) (standing r s None) (standing r₂ s₂ seat₂) script progress after result cut
                (turn-cut Answered (Ended end) (standing r s None) script line left behind step lines refused (standing r₁ s₁ seat) before (along empty end) some after same-room fields read refused' (standing r₂ s₂ seat₂) result here cut),
          )

-- past the last line only the end line is to come
pub turned-none : (r r₁ : Register Name) (seat : Option OpenSitting) (first before : Report) (script : List ℕ) (left : List (List ℕ)) (progress : Progress) (value : Unit {0})
    → Leads r None r₁ seat (OnWay first before script left progress.lines progress.refused) → left ≡ []
    → Leads r None r₁ seat (λ s s'. used first ≡ 0 → (end : Moment) → RanLines Answered (Ended end) s script (Ok value) progress s' before)
turned-none r r₁ seat first before script left progress value way none s stands =
    let (s₁, stands₁, along) = way s stands in (
      s₁,
      stands₁,
      λ empty end. subst (λ (rest : List (List ℕ)). Along Answered (Ended end) (capacity before) (standing r s None) script (text before) progress.lines progress.refused (standing r₁ s₁ seat) rest) none (along empty end),
    )
