-- What the runner's calls ensure of the report: a line was carried out, the lines were, the report is finished.
-- The relations Answered and Ended are those of the report.
use Rattle.std.specs.Prelude.{◌≡◌, ℕ, ◌+◌, ◌-◌, Bool, false, cond, List, [], ◌++◌, length, take, Ok, Err, Result, MatchResult, is_ok}
use Rattle.register.specs.declared.refusal.Refusal.TheVariants.{ReportFull, ScriptTooLong}
use Rattle.report.specs.Report.{capacity, text, LineAdded, LineRefused}
use Rattle.report.specs.declared.report.Full.{Full}
use Rattle.report.specs.declared.report.Report.{Report}
use Rattle.script.specs.Lines.{lines_of}
use Rattle.script.specs.Reports.{Writes, answer_line, refusals}
use Rattle.script.specs.Answers.{Answer}
use Rattle.script.specs.declared.runner.Progress.{Progress}
use Rattle.script.specs.declared.runner.Stopped.{Stopped}

-- how a run ends: with the report's length, and with a refusal where a line did not fit
abbrev pub outcome : Bool → ℕ → Result ℕ Stopped
outcome whole size = cond whole (Ok size) (Err (record { length = size; why = ReportFull }))

-- A script that is too long is not run, and writes nothing.
pub record TooLong (r : Result ℕ Stopped) (before after : List ℕ) : Type 0 where
  pub answer : r ≡ Err (record { length = 0; why = ScriptTooLong })
  pub unwritten : after ≡ before

module _ {S : Type 0} (Answered : S → List (List ℕ) → Answer → S → Type 0) where
  -- The line of this number was answered, a refusal was counted, and its report line was added, or did not fit.
  pub record RanLine (number : ℕ) (fields : List (List ℕ)) (r : Result (Unit {0}) Full) (s s' : S) (refused refused' : ℕ) (before after : Report) : Type 0 where
    pub answer : Answer
    pub answered : Answered s fields answer s'
    pub counted : refused' ≡ refused + refusals answer
    pub lined : MatchResult r (λ _. LineAdded before (answer_line number answer) after) (λ _. LineRefused before (answer_line number answer) after)

module _ {S : Type 0} (Answered : S → List (List ℕ) → Answer → S → Type 0) (Ended : S → ℕ → Type 0) where
  -- On the way through a run: whatever it writes from here on, the whole run writes the text so far and then that.
  abbrev pub Along : (room : ℕ) (start : S) (script text : List ℕ) (lines refused : ℕ) (s : S) (rest : List (List ℕ)) → Type 0
  Along room start script text lines refused s rest =
      (later : List ℕ) (whole : Bool)
      → Writes Answered Ended (room - length text) lines refused s rest later whole
      → Writes Answered Ended room 0 0 start (lines_of script) (text ++ later) whole

  -- All lines were carried out, and the end line is to come; or a report line did not fit.
  abbrev pub RanLines : (start : S) (script : List ℕ) → Result (Unit {0}) Full → Progress → S → Report → Type 0
  RanLines start script r progress s report =
      MatchResult r
      (λ _. Along (capacity report) start script (text report) progress.lines progress.refused s [])
      (λ _. (nodes : ℕ) → Ended s nodes → Writes Answered Ended (capacity report) 0 0 start (lines_of script) (text report) false)

  -- The report is finished: its text is what the run writes, and the answer says whether the whole of it fits.
  abbrev pub Finished : (start : S) (script : List ℕ) → Result (Unit {0}) Full → Report → Type 0
  Finished start script r report = Writes Answered Ended (capacity report) 0 0 start (lines_of script) (text report) (is_ok r)

  -- What the run writes stands at the front of the bytes. The bytes behind it are left free.
  pub record Reported (start : S) (script : List ℕ) (r : Result ℕ Stopped) (before after : List ℕ) : Type 0 where
    pub text : List ℕ
    pub whole : Bool
    pub written : Writes Answered Ended (length before) 0 0 start (lines_of script) text whole
    pub answer : r ≡ outcome whole (length text)
    pub front : take (length text) after ≡ text
    pub room : length after ≡ length before
