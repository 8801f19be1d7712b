-- The steps of a run through the lines of a script, whatever answers a line and ends the run.
use Rattle.std.proofs.Common.{◌≡◌, ℕ, ◌+◌, ◌-◌, ◌<◌, ◌≤◌, Bool, true, false, List, [], ◌∷◌, ◌++◌, length, take, pos, Ok, Err, Result, MatchResult, is_err, sym, ap, ◌∙◌, subst, append_assoc, append-nil, arith, suc, eqb, cond}
use Rattle.std.proofs.lemmas.List.{length-take}
use Rattle.report.specs.Report.{capacity, held, line_text, text, used, LineAdded, LineRefused}
use Rattle.report.specs.declared.report.Full.{Full}
use Rattle.report.specs.declared.report.Piece.{Piece}
use Rattle.report.specs.declared.report.Piece.TheVariants.{End, Number}
use Rattle.report.specs.declared.report.Report.{Report}
use Rattle.script.specs.Fields.{fields_of}
use Rattle.script.specs.Lines.{lines_of, on_first}
use Rattle.script.specs.Reports.{Writes, end_fits, end_cut, line_empty, line_fits, line_cut, answer_line, end_line, refusals}
use Rattle.script.specs.Scripts.{Along, Finished, RanLine, RanLines}
use Rattle.script.specs.Answers.{Answer}
use Rattle.script.specs.declared.runner.Progress.{Progress}

-- a report's text is as long as its cursor says
text-length : (r : Report) → length (text r) ≡ used r
text-length r = length-take (used r) (held r) ∙ (let h : used r ≤ capacity r = r.within in omega arith)

-- the room behind a line that was added
room-behind : (before after : Report) (line : List ℕ) → capacity after ≡ capacity before → LineAdded before line after → capacity after - length (text after) ≡ capacity before - length (text before) - length line
room-behind before after line same-room longer =
    let e = text-length before in
    let e' = text-length after in
    let g = longer.grown in
    omega arith

-- a line that was added fits, and one that was refused does not
line-room : (before after : Report) (line : List ℕ) → LineAdded before line after → length line ≤ capacity before - length (text before)
line-room before after line longer = let e = text-length before in let h = longer.room in omega arith

line-lacks : (before after : Report) (line : List ℕ) → LineRefused before line after → capacity before - length (text before) < length line
line-lacks before after line same = let e = text-length before in let h = same.full in let w : used before ≤ capacity before = before.within in omega arith

pub refusals-le : (answer : Answer) → refusals answer ≤ 1
refusals-le (Ok reply) = omega arith
refusals-le (Err why) = omega arith

-- a script has no more lines than bytes
pub lines-le : (bytes : List ℕ) → length (lines_of bytes) ≤ length bytes
lines-le [] = omega arith
lines-le (byte ∷ bytes) =
    let rest = lines-le bytes in
    elim (eqb byte 10) as (λ b. length (cond b ([] ∷ lines_of bytes) (on_first byte (lines_of bytes))) ≤ suc (length bytes)) [
      | true ↦ omega arith
      | false ↦ on_first-le (lines_of bytes) rest
    ]
  where
    on_first-le : (parts : List (List ℕ)) → length parts ≤ length bytes → length (on_first byte parts) ≤ suc (length bytes)
    on_first-le [] h = omega arith
    on_first-le (part ∷ parts) h = omega arith

module _ {S : Type 0} (Answered : S → List (List ℕ) → Answer → S → Type 0) (Ended : S → ℕ → Type 0) where
  empty-written : (room lines refused : ℕ) (s : S) (line : List ℕ) (rest : List (List ℕ)) (later : List ℕ) (whole : Bool) → length line ≡ 0 → Writes Answered Ended room (lines + 1) refused s rest later whole → Writes Answered Ended room lines refused s (line ∷ rest) later whole
  empty-written room lines refused s [] rest later whole h w = line_empty room lines refused s rest later whole w
  empty-written room lines refused s (byte ∷ bytes) rest later whole h w = absurd (omega arith)

  pub along-start : (report : Report) (s : S) (script : List ℕ) → used report ≡ 0 → Along Answered Ended (capacity report) s script (text report) 0 0 s (lines_of script)
  along-start report s script e later whole w =
      let none : text report ≡ [] = ap (λ (n : ℕ). take n (held report)) e in
      let room : capacity report - length (text report) ≡ capacity report = omega (arith, text-length report) in
      rw none (subst (λ (n : ℕ). Writes Answered Ended n 0 0 s (lines_of script) later whole) room w)

  -- One more report line: it fits, or it does not.
  module _ (start : S) (script : List ℕ) (before after : Report) (same-room : capacity after ≡ capacity before) where
    written_on : (line later : List ℕ) (whole : Bool) → LineAdded before line after → Writes Answered Ended (capacity before) 0 0 start (lines_of script) (text before ++ (line ++ later)) whole → Writes Answered Ended (capacity after) 0 0 start (lines_of script) (text after ++ later) whole
    written_on line later whole longer w = rw (same-room, longer.appended, append_assoc) w

    written-no-more : (line : List ℕ) → LineRefused before line after → Writes Answered Ended (capacity before) 0 0 start (lines_of script) (text before ++ []) false → Writes Answered Ended (capacity after) 0 0 start (lines_of script) (text after) false
    written-no-more line same w = rw (same-room, same.unchanged) (rw append-nil at w)

    -- the line of these bytes, carried out
    module _ (line : List ℕ) (rest : List (List ℕ)) (lines refused refused' : ℕ) (s s' : S) (some : 0 < length line) (along : Along Answered Ended (capacity before) start script (text before) lines refused s (line ∷ rest)) where
      along-line : (r : Result (Unit {0}) Full) → is_err r ≡ false → RanLine Answered (lines + 1) (fields_of line) r s s' refused refused' before after → Along Answered Ended (capacity after) start script (text after) (lines + 1) refused' s' rest
      along-line (Err full) ok ran = absurd (let z : ◌≡◌ {A = ℕ} 0 1 = cc in omega arith)
      along-line (Ok _) ok ran = λ later whole w.
          let written = answer_line (lines + 1) ran.answer in
          let behind : Writes Answered Ended (capacity before - length (text before) - length written) (lines + 1) (refused + refusals ran.answer) s' rest later whole =
          rw (sym (room-behind before after written same-room ran.lined), sym ran.counted) w in
          written_on written later whole ran.lined (along (written ++ later) whole (line_fits (capacity before - length (text before)) lines refused s line rest ran.answer s' later whole some ran.answered (line-room before after written ran.lined) behind))

      along-cut : (r : Result (Unit {0}) Full) → is_err r ≡ true → RanLine Answered (lines + 1) (fields_of line) r s s' refused refused' before after → (nodes : ℕ) → Ended s' nodes → Writes Answered Ended (capacity after) 0 0 start (lines_of script) (text after) false
      along-cut (Ok _) cut ran = absurd (let z : ◌≡◌ {A = ℕ} 0 1 = cc in omega arith)
      along-cut (Err full) cut ran = λ nodes ended.
          let written = answer_line (lines + 1) ran.answer in
          written-no-more written ran.lined (along [] false (line_cut (capacity before - length (text before)) lines refused s line rest ran.answer s' nodes some ran.answered ended (line-lacks before after written ran.lined)))

  -- One turn of the run: the first of the lines to come, and those behind it.
  module _ (start : S) (script line : List ℕ) (left behind : List (List ℕ)) (step : left ≡ line ∷ behind) (lines refused : ℕ) (s : S) (before : Report)
      (along : Along Answered Ended (capacity before) start script (text before) lines refused s left) where
    here : Along Answered Ended (capacity before) start script (text before) lines refused s (line ∷ behind)
    here = subst (λ (rest : List (List ℕ)). Along Answered Ended (capacity before) start script (text before) lines refused s rest) step along

    pub turn-empty : length line ≡ 0 → Along Answered Ended (capacity before) start script (text before) (lines + 1) refused s behind
    turn-empty empty later whole w = here later whole (empty-written (capacity before - length (text before)) lines refused s line behind later whole empty w)

    module _ (some : 0 < length line) (after : Report) (same-room : capacity after ≡ capacity before) (fields : List (List ℕ)) (read : fields ≡ fields_of line) (refused' : ℕ) (s' : S)
        (r : Result (Unit {0}) Full) (ran : RanLine Answered (lines + 1) fields r s s' refused refused' before after) where
      carried-out : RanLine Answered (lines + 1) (fields_of line) r s s' refused refused' before after
      carried-out = subst (λ (parts : List (List ℕ)). RanLine Answered (lines + 1) parts r s s' refused refused' before after) read ran

      pub turn-line : is_err r ≡ false → Along Answered Ended (capacity after) start script (text after) (lines + 1) refused' s' behind
      turn-line ok = along-line start script before after same-room line behind lines refused refused' s s' some here r ok carried-out

      pub turn-cut : is_err r ≡ true → (nodes : ℕ) → Ended s' nodes → Writes Answered Ended (capacity after) 0 0 start (lines_of script) (text after) false
      turn-cut cut = along-cut start script before after same-room line behind lines refused refused' s s' some here r cut carried-out

  -- the lines were run up to one whose report line did not fit
  pub lines-cut : (start s : S) (script : List ℕ) (progress : Progress) (report : Report) (r : Result (Unit {0}) Full) → is_err r ≡ true
      → ((nodes : ℕ) → Ended s nodes → Writes Answered Ended (capacity report) 0 0 start (lines_of script) (text report) false) → RanLines Answered Ended start script r progress s report
  lines-cut start s script progress report (Ok _) cut wrote = absurd (let z : ◌≡◌ {A = ℕ} 0 1 = cc in omega arith)
  lines-cut start s script progress report (Err full) cut wrote = wrote

  -- the end of a run: a line before the end line did not fit; the end line fits, or it does not
  module _ (start s : S) (script : List ℕ) (nodes : ℕ) (ended : Ended s nodes) (progress : Progress) (before : Report) where
    pub finished-cut : (full : Full) → RanLines Answered Ended start script (Err full) progress s before → Finished Answered Ended start script (Err full) before
    finished-cut full on = on nodes ended

    module _ (value : Unit {0}) (on : RanLines Answered Ended start script (Ok value) progress s before) (after : Report) (same-room : capacity after ≡ capacity before)
        (all declined in_use : Piece) (p : all ≡ Number (pos progress.lines)) (q : declined ≡ Number (pos progress.refused)) (r : in_use ≡ Number (pos nodes)) where
      abbrev last : List ℕ
      last = end_line progress.lines progress.refused nodes

      as_written : line_text (End ∷ all ∷ declined ∷ in_use ∷ []) ≡ last
      as_written = rw (p, q, r)

      pub finished-end : (result : Result (Unit {0}) Full) → MatchResult result (λ _. LineAdded before (line_text (End ∷ all ∷ declined ∷ in_use ∷ [])) after) (λ _. LineRefused before (line_text (End ∷ all ∷ declined ∷ in_use ∷ [])) after)
          → Finished Answered Ended start script result after
      finished-end (Ok _) added =
          let longer : LineAdded before last after = rw as_written at added in
          let wrote : Writes Answered Ended (capacity before) 0 0 start (lines_of script) (text before ++ last) true = on last true (end_fits (capacity before - length (text before)) progress.lines progress.refused s nodes ended (line-room before after last longer)) in
          rw (same-room, longer.appended) wrote
      finished-end (Err full) refused =
          let same : LineRefused before last after = rw as_written at refused in
          written-no-more start script before after same-room last same (on [] false (end_cut (capacity before - length (text before)) progress.lines progress.refused s nodes ended (line-lacks before after last same)))
