-- The calls on a register, with any numbers as handles, and their answers.
use Rattle.std.specs.Prelude.{ℕ, List, ℤ, Ok, Err, Option, Result}
use Rattle.std.specs.Option.{option_map}
use Rattle.kinds.specs.declared.instant.Instant.{Instant}
use Rattle.kinds.specs.declared.name.Name.{Name}
use Rattle.kinds.specs.declared.reading.Reading.{Reading}
use Rattle.tree.specs.declared.range.Total.{Total}
use Rattle.register.specs.declared.entries.Change.{Change}
use Rattle.register.specs.declared.handle.Handle.{Handle as HandleOf}
use Rattle.register.specs.declared.handle.InSitting.{InSitting}
use Rattle.register.specs.declared.handle.Refused.{Refused}
use Rattle.register.specs.declared.handle.Resting.{Resting}
use Rattle.register.specs.declared.questions.Tally.{Tally}
use Rattle.register.specs.declared.refusal.Refusal.{Refusal}
-- a handle is a place and a serial
pub use Rattle.register.specs.declared.handle.Parts.{Parts as Handle}

-- the handle of a line at rest, and of a line in a sitting
abbrev pub Line : Type 0
Line = HandleOf Resting

abbrev pub Sitting : Type 0
Sitting = HandleOf InSitting

abbrev pub line_handle : Line → Handle
line_handle line = record { place = line.place; serial = line.serial }

abbrev pub sitting_handle : Sitting → Handle
sitting_handle given = record { place = given.place; serial = given.serial }

-- a question about a sheet
pub data Question : Type 0 where
  -- the latest reading of a name up to a measured instant
  as_of : List ℕ → ℕ → Question
  -- the number and the sum of a name's readings from one measured instant to another
  total : List ℕ → ℕ → ℕ → Question
  -- the next name after this one, or the first of all
  next_name : Option (List ℕ) → Question

pub data Call : Type 0 where
  opens : Call
  branches : Handle → Call
  -- at a recorded instant
  begins : Handle → ℕ → Call
  -- a name's bytes, a measured instant, and what is done there
  enters : Handle → List ℕ → ℕ → Change → Call
  commits : Handle → Call
  abandons : Handle → Call
  -- on a shelf
  stows : Handle → ℕ → Call
  fetches : ℕ → Call
  retires : Handle → Call
  tallies : Call
  -- of the line's sheet as of a recorded instant
  asks : Handle → ℕ → Question → Call

pub data Answer : Type 0 where
  refused : Refusal → Answer
  done : Answer
  -- the handle of a line that was opened, branched off or fetched
  handed : Handle → Answer
  counted : Tally → Answer
  -- a reading with its measured instant, or none; a number and a sum; a name, or none
  found : Option (ℕ × ℤ) → Answer
  totalled : ℕ → ℤ → Answer
  named : Option Name → Answer

-- the answer that a call's result stands for
abbrev pub line_answer : Result Line Refusal → Answer
line_answer (Ok line) = handed (line_handle line)
line_answer (Err why) = refused why

abbrev pub branch_answer : Result (Line × Line) (Refused Line) → Answer
branch_answer (Ok lines) = handed (line_handle lines.1)
branch_answer (Err e) = refused e.why

abbrev pub done_answer : {A H : Type 0} → Result A (Refused H) → Answer
done_answer (Ok value) = done
done_answer (Err e) = refused e.why

abbrev pub found_answer : Result (Option (Instant × Reading)) Refusal → Answer
found_answer (Ok reading) = found (option_map (λ x. (x.0.seconds, x.1.microhertz)) reading)
found_answer (Err why) = refused why

abbrev pub total_answer : Result Total Refusal → Answer
total_answer (Ok sum) = totalled sum.count sum.sum
total_answer (Err why) = refused why

abbrev pub name_answer : Result (Option Name) Refusal → Answer
name_answer (Ok name) = named name
name_answer (Err why) = refused why

abbrev pub entry_answer : Result (Unit {0}) Refusal → Answer
entry_answer (Ok value) = done
entry_answer (Err why) = refused why
