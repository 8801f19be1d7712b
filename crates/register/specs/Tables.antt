-- The table of lines as a list of 64 records: which place is the lowest in a state, which line has a handle, how many are live.
use Rattle.std.specs.Prelude.{◌≡◌, ℕ, Bool, true, false, cond, not, ◌&&◌, List, [], ◌∷◌, count_by, position, replicate, is_none, is_some, Some, None, Ok, Err, Option, Result, ◌==◌, nat_le, nat_lt, slice_index_or}
use Rattle.std.specs.Option.{option_map, option_map_or}
use Rattle.register.specs.Refusals.{first_of}
use Rattle.register.specs.declared.refusal.Refusal.{Refusal}
use Rattle.register.specs.declared.refusal.Refusal.TheVariants.{LinesExhausted, NoSuchLine, NotAShelf, SerialsExhausted, ShelfTaken}
use Rattle.register.specs.declared.table.Record.{Record}
use Rattle.register.specs.declared.table.State.{State}
use Rattle.register.specs.declared.table.State.TheVariants.{AtRest, Sitting, Stowed}

abbrev pub same_state : State → State → Bool
same_state AtRest AtRest = true
same_state (Sitting q m) (Sitting r n) = q == r && m == n
same_state (Stowed a) (Stowed b) = a == b
same_state _ _ = false

-- the table when no line was opened yet
abbrev pub all_free : List (Option Record)
all_free = replicate 64 None

-- the record of a line at rest
abbrev pub resting_record : ℕ → ℕ → Record
resting_record serial root = record { serial = serial; root = root; state = AtRest }

-- the lowest place that passes a test
abbrev pub lowest : {A : Type 0} → (A → Bool) → List A → Option ℕ
lowest test xs = position test xs

-- the place has a line in this state
abbrev pub in_state : State → Option Record → Bool
in_state state place = option_map_or (λ line. same_state line.state state) place false

-- the root of the line at a place, 0 where there is none; its serial; and its state
abbrev pub root_in : Option Record → ℕ
root_in place = option_map_or (λ line. line.root) place 0

abbrev pub serial_in : Option Record → ℕ
serial_in place = option_map_or (λ line. line.serial) place 0

abbrev pub state_in : Option Record → Option State
state_in place = option_map (λ line. line.state) place

-- the root of a sitting's working sheet; 0 where the line is in no sitting, or the place has none
abbrev pub working_root : State → ℕ
working_root AtRest = 0
working_root (Sitting recorded sheet) = sheet
working_root (Stowed letter) = 0

abbrev pub working_in : Option Record → ℕ
working_in place = option_map_or (λ line. working_root line.state) place 0

-- the outside owners of nodes: the root of each line, and of its working sheet
abbrev pub roots_in : List (Option Record) → List ℕ
roots_in [] = []
roots_in (place ∷ places) = root_in place ∷ working_in place ∷ roots_in places

-- the line, if it has this serial
abbrev pub with_serial : ℕ → Option Record → Option Record
with_serial serial None = None
with_serial serial (Some line) = cond (line.serial == serial) (Some line) None

-- the line at this place, if it has this serial
abbrev pub line_of : List (Option Record) → ℕ → ℕ → Option Record
line_of lines place serial = with_serial serial (slice_index_or lines place None)

-- the line at this place has this record
abbrev pub Lies : List (Option Record) → ℕ → Record → Type 0
Lies lines place line = slice_index_or lines place None ≡ Some line

-- the record of the line at rest with this place and serial, or why there is none
abbrev pub RestsAs : List (Option Record) → ℕ → ℕ → Result Record Refusal → Type 0
RestsAs lines place serial (Ok line) = (Some line ≡ line_of lines place serial) × (in_state AtRest (Some line) ≡ true)
RestsAs lines place serial (Err why) = (in_state AtRest (line_of lines place serial) ≡ false) × (why ≡ NoSuchLine)

-- the record of the line in a sitting with this place and serial, its recorded instant and the root of its sheet, or why there is none
abbrev pub SitsAs : List (Option Record) → ℕ → ℕ → Result (Record × ℕ × ℕ) Refusal → Type 0
SitsAs lines place serial (Ok seat) = (Some seat.0 ≡ line_of lines place serial) × (state_in (Some seat.0) ≡ Some (Sitting seat.1 seat.2))
SitsAs lines place serial (Err why) =
    ((recorded sheet : ℕ) → state_in (line_of lines place serial) ≡ Some (Sitting recorded sheet) → ⊥) × (why ≡ NoSuchLine)

-- the number of live lines
abbrev pub live : List (Option Record) → ℕ
live lines = count_by is_some lines

-- A to Z
abbrev pub is_letter : ℕ → Bool
is_letter b = nat_le 65 b && nat_le b 90

-- the lowest free place, or why there is no place for a further line
abbrev pub place_or : ℕ → Option ℕ → Result ℕ Refusal
place_or next None = Err LinesExhausted
place_or next (Some place) = cond (nat_lt 4294967294 next) (Err SerialsExhausted) (Ok place)

abbrev pub vacancy_in : List (Option Record) → ℕ → Result ℕ Refusal
vacancy_in lines next = place_or next (lowest is_none lines)

-- why this line cannot be stowed on this shelf
abbrev pub stow_refusal : List (Option Record) → Option Record → ℕ → Option Refusal
stow_refusal lines line letter =
    first_of (
    (not (in_state AtRest line), NoSuchLine) ∷
    (not (is_letter letter), NotAShelf) ∷
    (is_some (lowest (in_state (Stowed letter)) lines), ShelfTaken) ∷
    [])

-- the record of the line, where it can be stowed on this shelf, or why it cannot
abbrev pub StowedAs : List (Option Record) → ℕ → ℕ → ℕ → Result Record Refusal → Type 0
StowedAs lines place serial letter (Ok line) =
    (Some line ≡ line_of lines place serial) × (None ≡ stow_refusal lines (Some line) letter)
StowedAs lines place serial letter (Err why) = Some why ≡ stow_refusal lines (line_of lines place serial) letter
