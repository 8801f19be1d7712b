-- What a line asks for, by its fields: a letter, and the fields that its command takes. Any other line is unreadable.
use Rattle.std.specs.Prelude.{ℕ, cond, List, [], ◌∷◌, drop, ℤ, Some, None, Option, ◌==◌}
use Rattle.script.specs.declared.command.Command.{Command}
use Rattle.script.specs.declared.command.Command.TheVariants.{Open, Branch, Begin, AsOf, Total, Retire, Tally, Record, Correct, Withdraw, Commit, Abandon}
use Rattle.register.specs.Calls.{Question, as_of, total}
use Rattle.script.specs.Numerals.{byte_of, instant_of, reading_of}

-- What a line asks for, as plain values. A name is a list of bytes, and a reading may be negative.
pub data Request : Type 0 where
  opens : (shelf : ℕ) → Request
  branches : (from to : ℕ) → Request
  begins : (shelf recorded : ℕ) → Request
  asks : (shelf recorded : ℕ) (question : Question) → Request
  retires : (shelf : ℕ) → Request
  tallies : Request
  records : (name : List ℕ) (measured : ℕ) (reading : ℤ) → Request
  corrects : (name : List ℕ) (measured : ℕ) (reading : ℤ) → Request
  withdraws : (name : List ℕ) (measured : ℕ) → Request
  commits : Request
  abandons : Request

-- what a command of the code asks for
abbrev pub requested : Command → Request
requested (Open shelf) = opens shelf
requested (Branch from to) = branches from to
requested (Begin shelf recorded) = begins shelf recorded
requested (AsOf shelf recorded name measured) = asks shelf recorded (as_of name.now measured)
requested (Total shelf recorded name from to) = asks shelf recorded (total name.now from to)
requested (Retire shelf) = retires shelf
requested Tally = tallies
requested (Record name measured reading) = records name.now measured reading
requested (Correct name measured reading) = corrects name.now measured reading
requested (Withdraw name measured) = withdraws name.now measured
requested Commit = commits
requested Abandon = abandons

-- the first field, read so
abbrev pub first_as : {A : Type 0} → (List ℕ → Option A) → List (List ℕ) → Option A
first_as read [] = None
first_as read (field ∷ fields) = read field

-- what follows from a value, where there is one
abbrev pub given : {A : Type 0} → Option A → (A → Option Request) → Option Request
given None follows = None
given (Some value) follows = follows value

-- the first field is read so, and what follows takes its value and the other fields
abbrev pub takes : {A : Type 0} → (List ℕ → Option A) → (A → List (List ℕ) → Option Request) → List (List ℕ) → Option Request
takes read follows fields = given (first_as read fields) (λ value. follows value (drop 1 fields))

-- the request, where no field is left
abbrev pub ends : Request → List (List ℕ) → Option Request
ends request [] = Some request
ends request (field ∷ fields) = None

-- The table. After its letter, a command takes these fields and no other: N shelf, B from to, S shelf recorded,
-- Q shelf recorded name measured, T shelf recorded name from to, D shelf, U, R name measured reading,
-- C name measured reading, W name measured, E, X.
abbrev pub arguments_of : ℕ → List (List ℕ) → Option Request
arguments_of letter fields =
    cond (letter == 78) (takes byte_of (λ shelf. ends (opens shelf)) fields)
    (cond (letter == 66) (takes byte_of (λ from. takes byte_of (λ to. ends (branches from to))) fields)
    (cond (letter == 83) (takes byte_of (λ shelf. takes instant_of (λ recorded. ends (begins shelf recorded))) fields)
    (cond (letter == 81) (takes byte_of (λ shelf. takes instant_of (λ recorded. takes Some (λ name. takes instant_of (λ measured. ends (asks shelf recorded (as_of name measured)))))) fields)
    (cond (letter == 84) (takes byte_of (λ shelf. takes instant_of (λ recorded. takes Some (λ name. takes instant_of (λ from. takes instant_of (λ to. ends (asks shelf recorded (total name from to))))))) fields)
    (cond (letter == 68) (takes byte_of (λ shelf. ends (retires shelf)) fields)
    (cond (letter == 85) (ends tallies fields)
    (cond (letter == 82) (takes Some (λ name. takes instant_of (λ measured. takes reading_of (λ reading. ends (records name measured reading)))) fields)
    (cond (letter == 67) (takes Some (λ name. takes instant_of (λ measured. takes reading_of (λ reading. ends (corrects name measured reading)))) fields)
    (cond (letter == 87) (takes Some (λ name. takes instant_of (λ measured. ends (withdraws name measured))) fields)
    (cond (letter == 69) (ends commits fields)
    (cond (letter == 88) (ends abandons fields)
    None)))))))))))

abbrev pub request_of : List (List ℕ) → Option Request
request_of fields = takes byte_of arguments_of fields
