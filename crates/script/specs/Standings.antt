-- What the runner's functions need and ensure: the register shows a state in which an open sitting is the register's too, and
-- from each such state the function leads to another.
use Rattle.std.specs.Prelude.{◌≡◌, ℕ, ◌+◌, true, List, Some, None, Ok, Err, Option, Result}
use Rattle.std.specs.Option.{option_map}
use Rattle.kinds.specs.declared.name.Name.{Name}
use Rattle.register.specs.Calls as call
use Rattle.register.specs.Calls.{Call, sitting_handle}
use Rattle.register.specs.declared.handle.Parts.{Parts as Handle}
use Rattle.register.specs.Places.{is_resting, is_sitting, live_in}
use Rattle.register.specs.Registers.{ShownBy, pool_of}
use Rattle.register.specs.Runs.{Moment, Runs}
use Rattle.register.specs.Shelves.{Bare, Single, laid_in}
use Rattle.register.specs.Shown.{Shown, at}
use Rattle.register.specs.Tables.{is_letter}
use Rattle.register.specs.declared.handle.Refused.{Refused}
use Rattle.register.specs.declared.refusal.Refusal.{Refusal}
use Rattle.register.specs.declared.register.Register.{Register}
use Rattle.script.specs.Does.{Seat}
use Rattle.script.specs.Runs.{Standing, forward}
use Rattle.script.specs.Answers.{Answer}
use Rattle.script.specs.declared.answer.Reply.TheVariants.{Done}
use Rattle.script.specs.declared.sitting.OpenSitting.{OpenSitting}

abbrev pub seat_of : OpenSitting → Seat
seat_of seat = record { handle = sitting_handle seat.sitting; shelf = seat.shelf }

-- a register that shows this
abbrev pub moment : Register Name → Shown → Moment
moment r s = record { pool = pool_of r; shown = s }

abbrev pub standing : Register Name → Shown → Option OpenSitting → Standing
standing r s seat = record { now = moment r s; seat = option_map seat_of seat }

-- the handle is that of a sitting, and the shelf of its line is bare
pub record Seated (s : Shown) (seat : Seat) : Type 0 where
  pub sits : is_sitting (at s seat.handle) ≡ true
  pub letter : is_letter seat.shelf ≡ true
  pub bare : Bare s.places seat.shelf

abbrev pub SeatedIn : Shown → Option Seat → Type 0
SeatedIn s None = Unit {0}
SeatedIn s (Some seat) = Seated s seat

-- 1 where a sitting is open
abbrev pub seats : Option Seat → ℕ
seats None = 0
seats (Some seat) = 1

-- all live lines lie on shelves, but for that of the open sitting
abbrev pub AllLaid : Standing → Type 0
AllLaid s = live_in s.now.shown.places ≡ laid_in s.now.shown.places + seats s.seat

-- the register shows the state, at most one line lies on each shelf, the open sitting is seated, and all other lines lie on shelves
pub record Stands (r : Register Name) (seat : Option OpenSitting) (s : Shown) : Type 0 where
  pub shows : ShownBy forward r s
  pub single : Single s.places
  pub seated : SeatedIn s (option_map seat_of seat)
  pub laid : AllLaid (standing r s seat)

-- the sitting that a beginning opens, and the one that a refused commit leaves open
abbrev pub begun_by : Result OpenSitting Refusal → Option OpenSitting
begun_by (Ok seat) = Some seat
begun_by (Err why) = None

abbrev pub left_open : Result (Unit {0}) (Refused OpenSitting) → Option OpenSitting
left_open (Ok value) = None
left_open (Err e) = Some e.handle

abbrev pub commit_answer : Result (Unit {0}) (Refused OpenSitting) → Answer
commit_answer (Ok value) = Ok Done
commit_answer (Err e) = Err e.why

abbrev pub Ready : Register Name → Option OpenSitting → Type 0
Ready r seat = (s : Shown) × Stands r seat s

abbrev pub Leads : Register Name → Option OpenSitting → Register Name → Option OpenSitting → (Standing → Standing → Type 0) → Type 0
Leads r seat r' seat' Relation = (s : Shown) → Stands r seat s → (s' : Shown) × Stands r' seat' s' × Relation (standing r s seat) (standing r' s' seat')

-- whatever r shows, these calls with these answers lead from there to what r' shows
abbrev pub RunsBy : Register Name → List (Call × call.Answer) → Register Name → Type 0
RunsBy r calls r' = (s : Shown) → ShownBy forward r s → (s' : Shown) × ShownBy forward r' s' × Runs forward (moment r s) calls (moment r' s')

-- the line is at rest; it is in a sitting
abbrev pub Resting : Register Name → Handle → Type 0
Resting r line = (s : Shown) × ShownBy forward r s × (is_resting (at s line) ≡ true)

abbrev pub InSitting : Register Name → Handle → Type 0
InSitting r line = (s : Shown) × ShownBy forward r s × (is_sitting (at s line) ≡ true)

-- the line is at rest, and the shelf is bare
pub record MayLie (r : Register Name) (line : Handle) (shelf : ℕ) : Type 0 where
  pub s : Shown
  pub shows : ShownBy forward r s
  pub rests : is_resting (at s line) ≡ true
  pub letter : is_letter shelf ≡ true
  pub bare : Bare s.places shelf
