-- Why a call is declined, and by which number callers know it. Where two hold for a call, the earlier line wins.
use Rattle.std.specs.Prelude.{ℕ, codes, Bool, cond, List, [], ◌∷◌, Some, None, Err, Option, Result}
use Rattle.register.specs.declared.refusal.Refusal.{Refusal}
use Rattle.register.specs.declared.refusal.Refusal.TheVariants.{NoSuchLine, LinesExhausted, SerialsExhausted, NotLater, NameBroken, ReadingOutOfRange, MeasuredLater, TreeTooHigh, ReadingThere, NoReading, NodesShort, NotAShelf, ShelfTaken, ShelfEmpty, EndsCrossed, ScriptTooLong, Unreadable, OutOfPlace, ReportFull}

abbrev pub number_of : Refusal → ℕ
number_of NoSuchLine = 1
number_of LinesExhausted = 2
number_of SerialsExhausted = 3
number_of NotLater = 4
number_of NameBroken = 5
number_of ReadingOutOfRange = 6
number_of MeasuredLater = 7
number_of TreeTooHigh = 8
number_of ReadingThere = 9
number_of NoReading = 10
number_of NodesShort = 11
number_of NotAShelf = 12
number_of ShelfTaken = 13
number_of ShelfEmpty = 14
number_of EndsCrossed = 15
number_of ScriptTooLong = 17
number_of Unreadable = 18
number_of OutOfPlace = 19
number_of ReportFull = 20

-- Of conditions with their refusals, in the order of the table: the first that holds declines the call.
abbrev pub first_of : List (Bool × Refusal) → Option Refusal
first_of [] = None
first_of (row ∷ rows) = cond row.0 (Some row.1) (first_of rows)

-- A declined call answers with the refusal and leaves the state as it was.
abbrev pub unless_declined : {S A E : Type 0} → Option Refusal → (Refusal → E) → S → Result A E × S → Result A E × S
unless_declined (Some why) back s done = (Err (back why), s)
unless_declined None back s done = done

-- what a refusal says
abbrev pub refusal_text : Refusal → List ℕ
refusal_text NoSuchLine = codes "no line has the handle and the state that the call needs"
refusal_text LinesExhausted = codes "all 64 lines are live"
refusal_text SerialsExhausted = codes "the next serial would pass 4,294,967,294"
refusal_text NotLater = codes "a sitting's recorded instant is not greater than the line's last stage"
refusal_text NameBroken = codes "the name breaks its rule"
refusal_text ReadingOutOfRange = codes "the reading is outside its range"
refusal_text MeasuredLater = codes "the measured instant is greater than the sitting's recorded instant"
refusal_text TreeTooHigh = codes "a tree that the call walks is higher than 24"
refusal_text ReadingThere = codes "recording where a reading is"
refusal_text NoReading = codes "correcting or withdrawing where no reading is"
refusal_text NodesShort = codes "fewer than 256 nodes are free"
refusal_text NotAShelf = codes "the letter is not A to Z"
refusal_text ShelfTaken = codes "stowing where a line lies"
refusal_text ShelfEmpty = codes "fetching where no line lies"
refusal_text EndsCrossed = codes "the first end of a range is greater than the second"
refusal_text ScriptTooLong = codes "the script has more than 32,768 bytes"
refusal_text Unreadable = codes "a wrong letter or number of fields, or an unreadable field"
refusal_text OutOfPlace = codes "the command does not belong inside, or outside, a sitting"
refusal_text ReportFull = codes "the report does not fit"
