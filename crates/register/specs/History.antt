-- The history of a line, and what a question about it has to answer. As of a recorded instant, the last entry about a name and a
-- measured instant, in the stages up to then, decides what stands there.
use Rattle.std.specs.Prelude.{◌≡◌, ℕ, ◌<◌, ◌≤◌, Bool, ◌&&◌, List, [], ◌∷◌, length, ℤ, pos, ◌+ℤ◌, Some, None, filter, Option, ◌==◌, nat_le}
use Rattle.std.specs.List.{ContainsAt as Has, flat_map, AllByRecursion}
use Rattle.std.specs.Str.{bytes_eq}
use Rattle.kinds.specs.Name.{IsName}
use Rattle.tree.specs.Lookup.{last_of}
use Rattle.register.specs.Ascending.{Ascending}
use Rattle.register.specs.declared.entries.Change.{Change}
use Rattle.register.specs.declared.entries.Change.TheVariants.{Record, Correct, Withdraw}

-- an entry: the bytes of a name, a measured instant, and what is done there
pub record Entry : Type 0 where
  pub name : List ℕ
  pub measured : ℕ
  pub change : Change

-- a stage: a recorded instant, and the entries of its sitting in order
pub record Stage : Type 0 where
  pub recorded : ℕ
  pub entries : List Entry

-- the stages of a line, the oldest first
abbrev pub History : Type 0
History = List Stage

-- each stage is recorded before all later ones
abbrev pub InTime : History → Type 0
InTime = Ascending (λ (s t : Stage). s.recorded < t.recorded)

-- the names keep the rule of names
abbrev pub WellNamed : List Entry → Type 0
WellNamed = AllByRecursion (λ (e : Entry). IsName e.name)

-- the entries of all stages at or before the recorded instant, in order
abbrev pub known_at : ℕ → History → List Entry
known_at r history = flat_map (λ (s : Stage). s.entries) (filter (λ (s : Stage). nat_le s.recorded r) history)

-- whether an entry is about this name and this measured instant
abbrev pub about : List ℕ → ℕ → Entry → Bool
about name measured e = bytes_eq e.name name && e.measured == measured

-- what an entry says: that its reading stands, or after a withdrawal that none does
abbrev pub says : Change → Option ℤ
says (Record reading) = Some reading
says (Correct reading) = Some reading
says Withdraw = None

-- where no entry was made, nothing stands
abbrev pub said_by : Option Entry → Option ℤ
said_by None = None
said_by (Some e) = says e.change

-- what stands at a name and a measured instant: the last entry about them decides
abbrev pub stands : List Entry → List ℕ → ℕ → Option ℤ
stands known name measured = said_by (last_of (filter (about name measured) known))

-- ---- the answers about one name, by what stands at each measured instant

module _ (standing : ℕ → Option ℤ) where
  -- the reading stands at or before m, and none stands after it up to m
  pub record Latest (m : ℕ) (reading : ℕ × ℤ) : Type 0 where
    pub in-time : reading.0 ≤ m
    pub there : standing reading.0 ≡ Some reading.1
    pub last : (i : ℕ) → reading.0 < i → i ≤ m → standing i ≡ None

  -- as of m: the latest reading, or none where none stands up to m
  abbrev pub IsAsOf : ℕ → Option (ℕ × ℤ) → Type 0
  IsAsOf m None = (i : ℕ) → i ≤ m → standing i ≡ None
  IsAsOf m (Some reading) = Latest m reading

  -- the reading stands at an instant from m1 to m2
  pub record Within (m1 m2 : ℕ) (reading : ℕ × ℤ) : Type 0 where
    pub from : m1 ≤ reading.0
    pub to : reading.0 ≤ m2
    pub there : standing reading.0 ≡ Some reading.1

-- the exact sum of readings
abbrev pub sum_of : List (ℕ × ℤ) → ℤ
sum_of [] = pos 0
sum_of (x ∷ xs) = x.1 +ℤ sum_of xs

-- the number and the sum of the readings that stand from m1 to m2: of a list by ascending instants that has these and no others
pub record IsTotal (standing : ℕ → Option ℤ) (m1 m2 count : ℕ) (sum : ℤ) : Type 0 where
  pub readings : List (ℕ × ℤ)
  pub ascending : Ascending (λ (x y : ℕ × ℤ). x.0 < y.0) readings
  pub only : AllByRecursion (Within standing m1 m2) readings
  pub every : (reading : ℕ × ℤ) → Within standing m1 m2 reading → Has readings reading
  pub count_is : count ≡ length readings
  pub sum_is : sum ≡ sum_of readings

-- ---- the answers about names

-- some reading of the name stands
pub record OnSheet (known : List Entry) (name : List ℕ) : Type 0 where
  pub measured : ℕ
  pub reading : ℤ
  pub there : stands known name measured ≡ Some reading

module _ (before : List ℕ → List ℕ → Type 0) where
  -- after the given name, or anywhere where none is given
  abbrev pub After : Option (List ℕ) → List ℕ → Type 0
  After None name = Unit {0}
  After (Some given) name = before given name

  -- the next name after the given one, or the first of all: it is on the sheet, and no name on the sheet comes between
  abbrev pub IsNext : List Entry → Option (List ℕ) → Option (List ℕ) → Type 0
  IsNext known given None = (name : List ℕ) → OnSheet known name → After given name → ⊥
  IsNext known given (Some next) =
      OnSheet known next × After given next × ((name : List ℕ) → OnSheet known name → After given name → before name next → ⊥)
