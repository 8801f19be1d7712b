-- What a line of the script does in a register and how it is answered, and how a run gives everything up at its end.
use Rattle.std.specs.Prelude.{◌≡◌, ℕ, zero, suc, ◌+◌, List, [], ◌∷◌, Some, None, Option, Err}
use Rattle.kinds.specs.Lexical.{by_words}
use Rattle.kinds.specs.declared.name.Name.{Name}
use Rattle.pool.specs.declared.pool.Pool.{Pool}
use Rattle.register.specs.Calls as call
use Rattle.register.specs.Calls.{Call, done, handed, refused}
use Rattle.register.specs.declared.handle.Parts.{Parts as Handle}
use Rattle.register.specs.Contents.{Names, names}
use Rattle.register.specs.Runs.{Moment, Runs}
use Rattle.register.specs.Shown.{newly_made}
use Rattle.register.specs.declared.refusal.Refusal.{Refusal}
use Rattle.register.specs.declared.refusal.Refusal.TheVariants.{Unreadable}
use Rattle.script.specs.Commands.{Request, request_of}
use Rattle.script.specs.Does.{Does, Seat}
use Rattle.script.specs.Answers.{Answer}

-- the runner's register is made for the order of names by their bytes
abbrev pub forward : Names Name
forward = names (λ name. name.words) (λ words. record { words = words }) (λ a b. by_words a.words b.words) (λ given. given) (λ key. key)

-- where a run stands: its register, and the open sitting, if any
pub record Standing : Type 0 where
  pub now : Moment
  pub seat : Option Seat

-- a run begins in a register newly made with this pool, outside a sitting
abbrev pub beginning : Pool → ℕ → ℕ → Standing
beginning made nodes first = record { now = record { pool = made; shown = newly_made nodes first }; seat = None }

-- The request was carried out: what it does takes what is shown before to what is shown after.
pub record Carried (before : Standing) (request : Request) (answer : Answer) (after : Standing) : Type 0 where
  pub calls : List (Call × call.Answer)
  pub does : Does before.seat request calls answer after.seat
  pub runs : Runs forward before.now calls after.now

-- a line that asks for nothing is unreadable, and changes nothing
abbrev pub AnsweredBy : Option Request → Standing → Answer → Standing → Type 0
AnsweredBy None s answer s' = (answer ≡ Err Unreadable) × (s' ≡ s)
AnsweredBy (Some request) s answer s' = Carried s request answer s'

-- A line of these fields is answered so, and takes the run from s to s'.
abbrev pub Answered : Standing → List (List ℕ) → Answer → Standing → Type 0
Answered s fields answer s' = AnsweredBy (request_of fields) s answer s'

-- an open sitting is abandoned, and its line goes back on its shelf
abbrev pub leaving : Option Seat → List (Call × call.Answer)
leaving None = []
leaving (Some seat) = (call.abandons seat.handle, done) ∷ (call.stows seat.handle seat.shelf, done) ∷ []

abbrev pub Left : Standing → Moment → Type 0
Left s m = Runs forward s.now (leaving s.seat) m

-- the line that lies on a shelf is fetched and retired
pub data Clears (shelf : ℕ) : List (Call × call.Answer) → Type 0 where
  clear : (line : Handle) → Clears shelf ((call.fetches shelf, handed line) ∷ (call.retires line, done) ∷ [])
  empty : (why : Refusal) → Clears shelf ((call.fetches shelf, refused why) ∷ [])

abbrev pub ShelfCleared : ℕ → Moment → Moment → Type 0
ShelfCleared shelf m m' = (calls : List (Call × call.Answer)) × Clears shelf calls × Runs forward m calls m'

-- the first shelves, counted from A, are cleared one after another
unfoldable pub Cleared : ℕ → Moment → Moment → Type 0
Cleared zero m m' = m ≡ m'
Cleared (suc shelves) m m' = (n : Moment) × Cleared shelves m n × ShelfCleared (65 + shelves) n m'

-- A run that stands at s leaves the sitting and clears the 26 shelves, and ends there. So many nodes are then in use: none, since no line
-- is left.
pub record Ended (end : Moment) (s : Standing) (nodes : ℕ) : Type 0 where
  pub between : Moment
  pub left : Left s between
  pub cleared : Cleared 26 between end
  pub used : nodes ≡ end.shown.used
  pub given_back : nodes ≡ 0
