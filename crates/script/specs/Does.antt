-- What a request does: the calls that it makes on the register, each with its answer, what the line of the script is answered
-- by them, and which sitting is open before and after.
use Rattle.std.specs.Prelude.{◌≡◌, ℕ, Bool, true, false, not, List, [], ◌∷◌, is_some, Some, None, Option, Ok, Err}
use Rattle.register.specs.Calls as call
use Rattle.register.specs.Calls.{Call, Question, counted, done, handed, refused}
use Rattle.register.specs.declared.handle.Parts.{Parts as Handle}
use Rattle.register.specs.declared.entries.Change.TheVariants.{Record, Correct, Withdraw}
use Rattle.register.specs.declared.questions.Tally.{Tally}
use Rattle.register.specs.declared.refusal.Refusal.{Refusal}
use Rattle.register.specs.declared.refusal.Refusal.TheVariants.{OutOfPlace}
use Rattle.script.specs.Answers.{Says}
use Rattle.script.specs.Commands.{Request, opens, branches, begins, asks, retires, tallies, records, corrects, withdraws, commits, abandons}
use Rattle.script.specs.Answers.{Answer}
use Rattle.script.specs.declared.answer.Reply.TheVariants.{Done, Counted}

-- the open sitting: its handle, and the shelf that its line goes back on
pub record Seat : Type 0 where
  pub handle : Handle
  pub shelf : ℕ

-- entries, committing and abandoning belong inside a sitting, and all else outside
abbrev pub belongs_inside : Request → Bool
belongs_inside (opens shelf) = false
belongs_inside (branches from to) = false
belongs_inside (begins shelf recorded) = false
belongs_inside (asks shelf recorded question) = false
belongs_inside (retires shelf) = false
belongs_inside tallies = false
belongs_inside (records name measured reading) = true
belongs_inside (corrects name measured reading) = true
belongs_inside (withdraws name measured) = true
belongs_inside commits = true
belongs_inside abandons = true

-- the call of an entry; the other requests make none
abbrev pub entry_of : Handle → Request → Option Call
entry_of handle (opens shelf) = None
entry_of handle (branches from to) = None
entry_of handle (begins shelf recorded) = None
entry_of handle (asks shelf recorded question) = None
entry_of handle (retires shelf) = None
entry_of handle tallies = None
entry_of handle (records name measured reading) = Some (call.enters handle name measured (Record reading))
entry_of handle (corrects name measured reading) = Some (call.enters handle name measured (Correct reading))
entry_of handle (withdraws name measured) = Some (call.enters handle name measured Withdraw)
entry_of handle commits = None
entry_of handle abandons = None

pub data Does : Option Seat → Request → List (Call × call.Answer) → Answer → Option Seat → Type 0 where
  -- a request that does not belong here makes no call
  misplaced : (seat : Option Seat) (request : Request) → belongs_inside request ≡ not (is_some seat) → Does seat request [] (Err OutOfPlace) seat
  -- N: a line is opened and stowed; one whose stowing is refused is retired
  open_refused : (shelf : ℕ) (why : Refusal) → Does None (opens shelf) ((call.opens, refused why) ∷ []) (Err why) None
  open_stowed : (shelf : ℕ) (new : Handle) → Does None (opens shelf) ((call.opens, handed new) ∷ (call.stows new shelf, done) ∷ []) (Ok Done) None
  open_retired :
      (shelf : ℕ) (new : Handle) (why : Refusal)
      → Does None (opens shelf) ((call.opens, handed new) ∷ (call.stows new shelf, refused why) ∷ (call.retires new, done) ∷ []) (Err why) None
  -- B: the line of a shelf is branched and goes back there; then the new line is stowed, or retired where that is refused
  branch_unfetched : (from to : ℕ) (why : Refusal) → Does None (branches from to) ((call.fetches from, refused why) ∷ []) (Err why) None
  branch_refused :
      (from to : ℕ) (old : Handle) (why : Refusal)
      → Does None (branches from to) ((call.fetches from, handed old) ∷ (call.branches old, refused why) ∷ (call.stows old from, done) ∷ []) (Err why) None
  branch_stowed :
      (from to : ℕ) (old new : Handle)
      → Does None (branches from to)
      ((call.fetches from, handed old) ∷ (call.branches old, handed new) ∷ (call.stows old from, done) ∷ (call.stows new to, done) ∷ []) (Ok Done) None
  branch_retired :
      (from to : ℕ) (old new : Handle) (why : Refusal)
      → Does None (branches from to)
      ((call.fetches from, handed old) ∷ (call.branches old, handed new) ∷ (call.stows old from, done) ∷ (call.stows new to, refused why) ∷ (call.retires new, done) ∷ [])
      (Err why) None
  -- S: a sitting begins on the line of a shelf; a line that is refused goes back there
  begin_unfetched : (shelf recorded : ℕ) (why : Refusal) → Does None (begins shelf recorded) ((call.fetches shelf, refused why) ∷ []) (Err why) None
  begin_refused :
      (shelf recorded : ℕ) (line : Handle) (why : Refusal)
      → Does None (begins shelf recorded) ((call.fetches shelf, handed line) ∷ (call.begins line recorded, refused why) ∷ (call.stows line shelf, done) ∷ []) (Err why) None
  begun :
      (shelf recorded : ℕ) (line : Handle)
      → Does None (begins shelf recorded) ((call.fetches shelf, handed line) ∷ (call.begins line recorded, done) ∷ []) (Ok Done) (Some (record { handle = line; shelf = shelf }))
  -- Q and T: the line of a shelf is asked, and goes back there
  ask_unfetched : (shelf recorded : ℕ) (question : Question) (why : Refusal) → Does None (asks shelf recorded question) ((call.fetches shelf, refused why) ∷ []) (Err why) None
  asked :
      (shelf recorded : ℕ) (question : Question) (line : Handle) (a : call.Answer) (answer : Answer)
      → Says a answer
      → Does None (asks shelf recorded question) ((call.fetches shelf, handed line) ∷ (call.asks line recorded question, a) ∷ (call.stows line shelf, done) ∷ []) answer None
  -- D: the line of a shelf is retired
  retire_unfetched : (shelf : ℕ) (why : Refusal) → Does None (retires shelf) ((call.fetches shelf, refused why) ∷ []) (Err why) None
  retired : (shelf : ℕ) (line : Handle) → Does None (retires shelf) ((call.fetches shelf, handed line) ∷ (call.retires line, done) ∷ []) (Ok Done) None
  -- U: the tally
  tallied : (tally : Tally) → Does None tallies ((call.tallies, counted tally) ∷ []) (Ok (Counted tally)) None
  -- R, C and W: an entry on the working sheet
  entered : (seat : Seat) (request : Request) (entry : Call) → entry_of seat.handle request ≡ Some entry → Does (Some seat) request ((entry, done) ∷ []) (Ok Done) (Some seat)
  entry_refused :
      (seat : Seat) (request : Request) (entry : Call) (why : Refusal)
      → entry_of seat.handle request ≡ Some entry
      → Does (Some seat) request ((entry, refused why) ∷ []) (Err why) (Some seat)
  -- E and X: the sitting ends, and its line goes back on its shelf; a refused commit leaves it open
  committed : (seat : Seat) → Does (Some seat) commits ((call.commits seat.handle, done) ∷ (call.stows seat.handle seat.shelf, done) ∷ []) (Ok Done) None
  commit_refused : (seat : Seat) (why : Refusal) → Does (Some seat) commits ((call.commits seat.handle, refused why) ∷ []) (Err why) (Some seat)
  abandoned : (seat : Seat) → Does (Some seat) abandons ((call.abandons seat.handle, done) ∷ (call.stows seat.handle seat.shelf, done) ∷ []) (Ok Done) None
