-- The lines of a script. Each ends with byte 10, and the last may lack it.
use Rattle.std.specs.Prelude.{◌≡◌, ℕ, ◌≤◌, cond, List, [], ◌∷◌, length, take, drop, Option, MatchOption, ◌==◌}
use Rattle.script.specs.declared.script_lines.ScriptLine.{ScriptLine}
use Rattle.script.specs.declared.script_lines.ScriptLines.{ScriptLines}

-- the byte put in front of the first part; where there is no part, it is one
abbrev pub on_first : ℕ → List (List ℕ) → List (List ℕ)
on_first byte [] = (byte ∷ []) ∷ []
on_first byte (part ∷ parts) = (byte ∷ part) ∷ parts

abbrev pub lines_of : List ℕ → List (List ℕ)
lines_of [] = []
lines_of (byte ∷ bytes) = cond (byte == 10) ([] ∷ lines_of bytes) (on_first byte (lines_of bytes))

-- the bytes of a line
abbrev pub line_bytes : ScriptLine → List ℕ
line_bytes line = drop line.start line.script.now

-- the lines that are yet to be given
abbrev pub lines_left : ScriptLines → List (List ℕ)
lines_left lines = lines_of (drop lines.next lines.script.now)

-- The first of the lines that are left is given, with the script up to its end and the place where it begins.
pub record GivesLine (before : ScriptLines) (line : ScriptLine) (after : ScriptLines) : Type 0 where
  pub lines : lines_left before ≡ line_bytes line ∷ lines_left after
  pub place : line.start ≡ before.next
  pub inside : line.start ≤ length line.script.now
  pub front : line.script.now ≡ take (length line.script.now) before.script.now

-- The next line is given, or none where none is left, and the script stays.
abbrev pub GivesNextLine : ScriptLines → Option ScriptLine → ScriptLines → Type 0
GivesNextLine before result after =
    MatchOption result ((lines_left before ≡ []) × (after ≡ before)) (λ line. GivesLine before line after) × (after.script ≡ before.script)
