-- The table of a register as it is shown: for each of 64 places its line, with the trees that its nodes carry.
use Rattle.std.specs.Prelude.{ℕ, ◌+◌, Bool, true, false, cond, List, [], ◌∷◌, ◌==◌, slice_index_or, Some, None, Option}
use Rattle.pool.specs.Held.{Held, held}
use Rattle.pool.specs.Tree.{leaf}
use Rattle.register.specs.declared.table.Record.{Record}
use Rattle.register.specs.declared.table.State.{State}
use Rattle.register.specs.declared.table.State.TheVariants.{AtRest, Sitting, Stowed}

-- what a live line is doing: it is at rest, in a sitting at a recorded instant with a working sheet, or on a shelf
pub data Doing : Type 0 where
  resting : Doing
  sitting : ℕ → Held → Doing
  stowed : ℕ → Doing

-- a place is free, or has a live line: its serial, its tree of stages, and what it is doing
pub data Place : Type 0 where
  free : Place
  live : ℕ → Held → Doing → Place

-- no tree: no node, and the leaf
abbrev pub none : Held
none = held 0 leaf

-- the tree of stages
abbrev pub stages_at : Place → Held
stages_at free = none
stages_at (live serial stages doing) = stages

abbrev pub serial_at : Place → ℕ
serial_at free = 0
serial_at (live serial stages doing) = serial

-- the working sheet, and the recorded instant of the sitting
abbrev pub sheet_on : Doing → Held
sheet_on resting = none
sheet_on (sitting recorded sheet) = sheet
sheet_on (stowed letter) = none

abbrev pub sheet_at : Place → Held
sheet_at free = none
sheet_at (live serial stages doing) = sheet_on doing

abbrev pub recorded_on : Doing → ℕ
recorded_on resting = 0
recorded_on (sitting recorded sheet) = recorded
recorded_on (stowed letter) = 0

abbrev pub recorded_at : Place → ℕ
recorded_at free = 0
recorded_at (live serial stages doing) = recorded_on doing

-- the owners of nodes outside the pool: the roots of live lines, and the working sheets of sittings
abbrev pub owners_of : List Place → List Held
owners_of [] = []
owners_of (place ∷ places) = stages_at place ∷ sheet_at place ∷ owners_of places

-- what the table has at a place
abbrev pub state_of : Doing → State
state_of resting = AtRest
state_of (sitting recorded sheet) = Sitting recorded sheet.node
state_of (stowed letter) = Stowed letter

abbrev pub record_of : Place → Option Record
record_of free = None
record_of (live serial stages doing) = Some (record { serial = serial; root = stages.node; state = state_of doing })

-- tests of a place
abbrev pub is_free : Place → Bool
is_free free = true
is_free (live serial stages doing) = false

abbrev pub is_resting : Place → Bool
is_resting free = false
is_resting (live serial stages resting) = true
is_resting (live serial stages (sitting recorded sheet)) = false
is_resting (live serial stages (stowed letter)) = false

abbrev pub is_sitting : Place → Bool
is_sitting free = false
is_sitting (live serial stages resting) = false
is_sitting (live serial stages (sitting recorded sheet)) = true
is_sitting (live serial stages (stowed letter)) = false

abbrev pub is_stowed : ℕ → Place → Bool
is_stowed shelf free = false
is_stowed shelf (live serial stages resting) = false
is_stowed shelf (live serial stages (sitting recorded sheet)) = false
is_stowed shelf (live serial stages (stowed letter)) = letter == shelf

-- the number of live lines
abbrev pub live_in : List Place → ℕ
live_in [] = 0
live_in (place ∷ places) = cond (is_free place) 0 1 + live_in places

-- the place if its line has this serial, else a free one
abbrev pub if_serial : ℕ → Place → Place
if_serial given free = free
if_serial given (live serial stages doing) = cond (serial == given) (live serial stages doing) free

-- the place that a handle stands for: free where no line has the handle
abbrev pub place_of : List Place → ℕ → ℕ → Place
place_of places place serial = if_serial serial (slice_index_or places place free)
