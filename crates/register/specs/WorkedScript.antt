-- The script of the worked examples, with names in the order of their bytes: the calls that its lines make on a new register, each with its
-- answer, and the history that they tell.
use Rattle.std.specs.Prelude.{ℕ, List, [], ◌∷◌, pos, neg_ℤ, Some, None, codes}
use Rattle.kinds.specs.Lexical.{by_words}
use Rattle.kinds.specs.declared.name.Name.{Name}
use Rattle.pool.specs.declared.node.Words.{Words}
use Rattle.register.specs.Calls.{Answer, Call, Handle, as_of, asks, begins, commits, done, enters, fetches, found, handed, opens, refused, retires, stows, total, totalled}
use Rattle.register.specs.Contents.{Names}
use Rattle.register.specs.Histories.{told_by}
use Rattle.register.specs.History.{History}
use Rattle.register.specs.Shown.{Shown, newly_made, next_handle}
use Rattle.register.specs.Steps.{Step}
use Rattle.register.specs.declared.entries.Change.{Change}
use Rattle.register.specs.declared.entries.Change.TheVariants.{Record, Correct, Withdraw}
use Rattle.register.specs.declared.refusal.Refusal.TheVariants.{NotLater, ShelfEmpty}

-- the order of names by their bytes
abbrev pub forward : Names Name
forward =
    record {
      words = λ n. n.words;
      key = λ (w : Words). record { words = w };
      order = λ a b. by_words a.words b.words;
      named = λ n. n;
      name = λ n. n;
    }

-- a new register of so many nodes, the first line that it gives, and the shelf A
abbrev pub made : ℕ → Shown
made nodes = newly_made nodes 1

abbrev pub handle : Handle
handle = next_handle (made 1000)

abbrev pub shelf : ℕ
shelf = 65

-- the bytes of the name SG-7
abbrev pub gauge : List ℕ
gauge = codes "SG-7"

abbrev pub entry : ℕ → Change → Call × Answer
entry measured change = (enters handle gauge measured change, done)

abbrev pub taken : Call × Answer
taken = (fetches shelf, handed handle)

abbrev pub put_back : Call × Answer
put_back = (stows handle shelf, done)

-- what each line of the script makes
abbrev pub script_calls : List (Call × Answer)
script_calls =
    -- N A
    (opens, handed handle) ∷ put_back
    -- S A 100, R SG-7 40 250, R SG-7 60 -30, E
    ∷ taken ∷ (begins handle 100, done)
    ∷ entry 40 (Record (pos 250)) ∷ entry 60 (Record (neg_ℤ (pos 30)))
    ∷ (commits handle, done) ∷ put_back
    -- S A 200, C SG-7 40 245, W SG-7 60, E
    ∷ taken ∷ (begins handle 200, done)
    ∷ entry 40 (Correct (pos 245)) ∷ entry 60 Withdraw
    ∷ (commits handle, done) ∷ put_back
    -- Q A 150 SG-7 70, Q A 200 SG-7 70, Q A 99 SG-7 70, T A 199 SG-7 40 60
    ∷ taken ∷ (asks handle 150 (as_of gauge 70), found (Some (60, neg_ℤ (pos 30)))) ∷ put_back
    ∷ taken ∷ (asks handle 200 (as_of gauge 70), found (Some (40, pos 245))) ∷ put_back
    ∷ taken ∷ (asks handle 99 (as_of gauge 70), found None) ∷ put_back
    ∷ taken ∷ (asks handle 199 (total gauge 40 60), totalled 2 (pos 220)) ∷ put_back
    -- S A 200, D A, Q A 200 SG-7 70
    ∷ taken ∷ (begins handle 200, refused NotLater) ∷ put_back
    ∷ taken ∷ (retires handle, done)
    ∷ (fetches shelf, refused ShelfEmpty)
    ∷ []

-- the history that they tell
abbrev pub history : History
history = (told_by script_calls handle).stages

-- the calls with these answers are steps, one after another
abbrev pub StepsFrom : Shown → List (Call × Answer) → Type 0
StepsFrom s [] = Unit {0}
StepsFrom s (c ∷ cs) = (s' : Shown) × Step forward s c.0 c.1 s' × StepsFrom s' cs
