-- The report of a run: a report line for every line that is not empty, then the end line, and of these the whole lines
-- that fit. It is a relation, over any states that the lines take one to another.
use Rattle.std.specs.Prelude.{ℕ, ◌+◌, ◌-◌, ◌<◌, ◌≤◌, Bool, true, false, cond, List, [], ◌∷◌, ◌++◌, length, pos}
use Rattle.report.specs.Report.{line_text}
use Rattle.report.specs.declared.report.Piece.TheVariants.{End, Number}
use Rattle.script.specs.Answers.{answer_pieces, counts_as}
use Rattle.script.specs.Fields.{fields_of}
use Rattle.script.specs.Answers.{Answer}

-- the report line of an answer to the line of this number
abbrev pub answer_line : ℕ → Answer → List ℕ
answer_line number answer = line_text (answer_pieces number answer)

-- a refused line counts as one
abbrev pub refusals : Answer → ℕ
refusals answer = cond (counts_as answer) 1 0

-- the end line: all lines, those refused, and the nodes in use
abbrev pub end_line : ℕ → ℕ → ℕ → List ℕ
end_line lines refused nodes = line_text (End ∷ Number (pos lines) ∷ Number (pos refused) ∷ Number (pos nodes) ∷ [])

-- Answered s fields answer s': a line of these fields is answered so, and takes the state s to s'.
-- Ended s nodes: a run that ends in s gives everything up, and so many nodes are then in use.
module _ {S : Type 0} (Answered : S → List (List ℕ) → Answer → S → Type 0) (Ended : S → ℕ → Type 0) where
  -- What a run through lines of the script writes, and whether the whole of it fits: from the state s, with so much room
  -- left in the report, after so many lines of which so many were refused. At the first report line that does not fit it
  -- ends, and writes no more.
  pub data Writes : (room lines refused : ℕ) (s : S) → List (List ℕ) → List ℕ → Bool → Type 0 where
    end_fits :
        (room lines refused : ℕ) (s : S) (nodes : ℕ)
        → Ended s nodes
        → length (end_line lines refused nodes) ≤ room
        → Writes room lines refused s [] (end_line lines refused nodes) true
    end_cut :
        (room lines refused : ℕ) (s : S) (nodes : ℕ)
        → Ended s nodes
        → room < length (end_line lines refused nodes)
        → Writes room lines refused s [] [] false
    line_empty :
        (room lines refused : ℕ) (s : S) (rest : List (List ℕ)) (text : List ℕ) (whole : Bool)
        → Writes room (lines + 1) refused s rest text whole
        → Writes room lines refused s ([] ∷ rest) text whole
    line_fits :
        (room lines refused : ℕ) (s : S) (line : List ℕ) (rest : List (List ℕ)) (answer : Answer) (s' : S) (text : List ℕ) (whole : Bool)
        → 0 < length line
        → Answered s (fields_of line) answer s'
        → length (answer_line (lines + 1) answer) ≤ room
        → Writes (room - length (answer_line (lines + 1) answer)) (lines + 1) (refused + refusals answer) s' rest text whole
        → Writes room lines refused s (line ∷ rest) (answer_line (lines + 1) answer ++ text) whole
    line_cut :
        (room lines refused : ℕ) (s : S) (line : List ℕ) (rest : List (List ℕ)) (answer : Answer) (s' : S) (nodes : ℕ)
        → 0 < length line
        → Answered s (fields_of line) answer s'
        → Ended s' nodes
        → room < length (answer_line (lines + 1) answer)
        → Writes room lines refused s (line ∷ rest) [] false
