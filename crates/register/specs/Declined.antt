-- Which refusal a call meets, if any: for each call its conditions in the table's order, and the first that holds declines it.
use Rattle.std.specs.Prelude.{ℕ, Bool, false, not, ◌||◌, List, [], ◌∷◌, is_some, Some, None, Option, nat_le, nat_lt}
use Rattle.kinds.specs.Packed.{name_of}
use Rattle.pool.specs.Tree.{Tree}
use Rattle.tree.specs.Lookup.{last_of}
use Rattle.tree.specs.Shape.{height}
use Rattle.register.specs.Calls.{Call, Handle, Question, abandons, as_of, asks, begins, branches, commits, enters, fetches, next_name, opens, retires, stows, tallies, total}
use Rattle.register.specs.Contents.{Names, card_tree, read_at, sheet_of, sheet_tree_as_of, stages_of}
use Rattle.register.specs.Places.{is_free, is_resting, is_sitting, is_stowed, recorded_at, sheet_at, stages_at}
use Rattle.register.specs.Refusals.{first_of}
use Rattle.register.specs.Rules.{in_range, is_name}
use Rattle.register.specs.Shown.{Shown, at, spare}
use Rattle.register.specs.Tables.{is_letter, lowest}
use Rattle.register.specs.declared.entries.Change.{Change}
use Rattle.register.specs.declared.entries.Change.TheVariants.{Record, Correct, Withdraw}
use Rattle.register.specs.declared.refusal.Refusal.{Refusal}
use Rattle.register.specs.declared.refusal.Refusal.TheVariants.{NoSuchLine, LinesExhausted, SerialsExhausted, NotLater, NameBroken, ReadingOutOfRange, MeasuredLater, TreeTooHigh, ReadingThere, NoReading, NodesShort, NotAShelf, ShelfTaken, ShelfEmpty, EndsCrossed}

abbrev pub no_place : Shown → Bool
no_place s = not (is_some (lowest is_free s.places))

abbrev pub no_serial : Shown → Bool
no_serial s = nat_lt 4294967294 s.next

abbrev pub too_high : Tree → Bool
too_high t = nat_lt 24 (height t)

abbrev pub too_few : Shown → Bool
too_few s = nat_lt (spare s) 256

-- the recorded instant is not greater than that of the last stage
abbrev pub not_after : {A : Type 0} → ℕ → Option (ℕ × A) → Bool
not_after recorded None = false
not_after recorded (Some stage) = nat_le recorded stage.0

-- the reading of an entry is outside its range
abbrev pub out_of_range : Change → Bool
out_of_range (Record reading) = not (in_range reading)
out_of_range (Correct reading) = not (in_range reading)
out_of_range Withdraw = false

-- recording where a reading is, and another entry where none is
abbrev pub occupied : Change → Bool → Bool
occupied (Record reading) there = there
occupied (Correct reading) there = false
occupied Withdraw there = false

abbrev pub lacking : Change → Bool → Bool
lacking (Record reading) there = false
lacking (Correct reading) there = not there
lacking Withdraw there = not there

-- the name that a question is about breaks its rule
abbrev pub misnamed : Question → Bool
misnamed (as_of name measured) = not (is_name name)
misnamed (total name from to) = not (is_name name)
misnamed (next_name None) = false
misnamed (next_name (Some name)) = not (is_name name)

-- the first end of a range is greater than the second
abbrev pub crossed : Question → Bool
crossed (as_of name measured) = false
crossed (total name from to) = nat_lt to from
crossed (next_name given) = false

-- a tree that a question goes through is too high: the sheet, and the card of the name that it is about
abbrev pub sheet_too_high : {K : Type 0} → Names K → Question → Tree → Bool
sheet_too_high 𝓝 (as_of name measured) sheet = too_high sheet || too_high (card_tree 𝓝 (𝓝.named (name_of name)) sheet)
sheet_too_high 𝓝 (total name from to) sheet = too_high sheet || too_high (card_tree 𝓝 (𝓝.named (name_of name)) sheet)
sheet_too_high 𝓝 (next_name given) sheet = too_high sheet

-- what is found on the line of a handle
pub record Findings : Type 0 where
  -- the recorded instant is not after the last stage
  pub settled : Handle → ℕ → Bool
  -- in the sitting, a reading stands for the name's bytes at the measured instant
  pub there : Handle → List ℕ → ℕ → Bool

-- the table: the first condition that holds, by what is found on the lines
abbrev pub refusal_by : {K : Type 0} → Names K → Findings → Shown → Call → Option Refusal
refusal_by 𝓝 found s opens =
    first_of ((no_place s, LinesExhausted) ∷ (no_serial s, SerialsExhausted) ∷ [])
refusal_by 𝓝 found s (branches handle) =
    first_of ((not (is_resting (at s handle)), NoSuchLine) ∷ (no_place s, LinesExhausted) ∷ (no_serial s, SerialsExhausted) ∷ [])
refusal_by 𝓝 found s (begins handle recorded) =
    first_of (
    (not (is_resting (at s handle)), NoSuchLine) ∷
    (found.settled handle recorded, NotLater) ∷
    (too_high (stages_at (at s handle)).tree, TreeTooHigh) ∷
    [])
refusal_by 𝓝 found s (enters handle bytes measured change) =
    let sheet = (sheet_at (at s handle)).tree in
    let there = found.there handle bytes measured in
    first_of (
    (not (is_sitting (at s handle)), NoSuchLine) ∷
    (not (is_name bytes), NameBroken) ∷
    (out_of_range change, ReadingOutOfRange) ∷
    (nat_lt (recorded_at (at s handle)) measured, MeasuredLater) ∷
    (too_high sheet || too_high (card_tree 𝓝 (𝓝.named (name_of bytes)) sheet), TreeTooHigh) ∷
    (occupied change there, ReadingThere) ∷
    (lacking change there, NoReading) ∷
    (too_few s, NodesShort) ∷
    [])
refusal_by 𝓝 found s (commits handle) =
    first_of (
    (not (is_sitting (at s handle)), NoSuchLine) ∷
    (too_high (stages_at (at s handle)).tree, TreeTooHigh) ∷
    (too_few s, NodesShort) ∷
    [])
refusal_by 𝓝 found s (abandons handle) = first_of ((not (is_sitting (at s handle)), NoSuchLine) ∷ [])
refusal_by 𝓝 found s (stows handle letter) =
    first_of (
    (not (is_resting (at s handle)), NoSuchLine) ∷
    (not (is_letter letter), NotAShelf) ∷
    (is_some (lowest (is_stowed letter) s.places), ShelfTaken) ∷
    [])
refusal_by 𝓝 found s (fetches letter) =
    first_of (
    (not (is_letter letter), NotAShelf) ∷
    (not (is_some (lowest (is_stowed letter) s.places)), ShelfEmpty) ∷
    [])
refusal_by 𝓝 found s (retires handle) = first_of ((not (is_resting (at s handle)), NoSuchLine) ∷ [])
refusal_by 𝓝 found s tallies = None
refusal_by 𝓝 found s (asks handle recorded question) =
    let stages = (stages_at (at s handle)).tree in
    first_of (
    (not (is_resting (at s handle)), NoSuchLine) ∷
    (misnamed question, NameBroken) ∷
    (too_high stages || sheet_too_high 𝓝 question (sheet_tree_as_of recorded stages), TreeTooHigh) ∷
    (crossed question, EndsCrossed) ∷
    [])

-- what the trees of the lines say
abbrev pub by_trees : {K : Type 0} → Names K → Shown → Findings
by_trees 𝓝 s =
    record {
      settled = λ handle recorded. not_after recorded (last_of (stages_of 𝓝 (stages_at (at s handle)).tree));
      there = λ handle bytes measured. read_at 𝓝 (𝓝.named (name_of bytes)) measured (sheet_of 𝓝 (sheet_at (at s handle)).tree);
    }

abbrev pub declined : {K : Type 0} → Names K → Shown → Call → Option Refusal
declined 𝓝 s call = refusal_by 𝓝 (by_trees 𝓝 s) s call
