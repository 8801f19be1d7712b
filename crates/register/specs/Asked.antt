-- The sheets that entries leave, one applied after another, and what questions find in cards, sheets and stages as lists.
use Rattle.std.specs.Prelude.{◌≡◌, ℕ, ◌<◌, Bool, true, ◌&&◌, leb, List, [], ◌∷◌, map, length, ℤ, Some, None, filter, Option, nat_le}
use Rattle.std.specs.declared.cmp.Ordering.TheVariants.{Less}
use Rattle.std.specs.Option.{option_map, unwrap_or}
use Rattle.std.specs.Ordering.{is_lt}
use Rattle.std.specs.List.{AllByRecursion}
use Rattle.kinds.specs.Packed.{name_of}
use Rattle.tree.specs.Lookup.{first_of, last_of}
use Rattle.register.specs.Ascending.{Ascending}
use Rattle.register.specs.Contents.{Card, Names, Sheet, entered}
use Rattle.register.specs.History.{Entry, History, sum_of}

-- ---- what entries leave

module _ {K : Type 0} (𝓝 : Names K) where
  -- the key of a name's bytes
  abbrev pub key_of : List ℕ → K
  key_of bytes = 𝓝.named (name_of bytes)

  -- the first name comes before the second in the order
  abbrev pub Before : List ℕ → List ℕ → Type 0
  Before a b = 𝓝.order (key_of a) (key_of b) ≡ Less

  -- the sheet after an entry, after entries one after another, and after entries on an empty sheet
  abbrev pub sheet_with : Sheet K → Entry → Sheet K
  sheet_with sheet e = entered 𝓝 (key_of e.name) e.measured e.change sheet

  abbrev pub sheet_from : Sheet K → List Entry → Sheet K
  sheet_from sheet [] = sheet
  sheet_from sheet (e ∷ es) = sheet_from (sheet_with sheet e) es

  abbrev pub sheet_after : List Entry → Sheet K
  sheet_after = sheet_from []

  -- the stages of a history, each with the sheet after it
  abbrev pub stages_from : Sheet K → History → List (ℕ × Sheet K)
  stages_from sheet [] = []
  stages_from sheet (s ∷ ss) = (s.recorded, sheet_from sheet s.entries) ∷ stages_from (sheet_from sheet s.entries) ss

-- readings by ascending instants
abbrev pub ByInstant : Card → Type 0
ByInstant = Ascending (λ (x y : ℕ × ℤ). x.0 < y.0)

-- a sheet has its names in the order, and on each card at least one reading, by ascending instants
pub record SortedSheet {K : Type 0} (𝓝 : Names K) (sheet : Sheet K) : Type 0 where
  pub names : Ascending (λ (x y : K × Card). 𝓝.order x.0 y.0 ≡ Less) sheet
  pub cards : AllByRecursion (λ (x : K × Card). ByInstant x.1) sheet
  pub filled : AllByRecursion (λ (x : K × Card). 0 < length x.1) sheet

-- ---- what questions find

-- the last pair with an instant at most m
abbrev pub last_up_to : {V : Type 0} → ℕ → List (ℕ × V) → Option (ℕ × V)
last_up_to {V} m xs = last_of (filter (λ (x : ℕ × V). leb x.0 m) xs)

-- the sheet of the last stage at or before r; none has an empty one
abbrev pub sheet_as_of : {K : Type 0} → ℕ → List (ℕ × Sheet K) → Sheet K
sheet_as_of {K} r stages = unwrap_or (option_map (λ (s : ℕ × Sheet K). s.1) (last_up_to r stages)) []

-- the readings of a card from m1 to m2, their number and their sum
abbrev pub readings_within : ℕ → ℕ → Card → Card
readings_within m1 m2 = filter (λ (x : ℕ × ℤ). nat_le m1 x.0 && nat_le x.0 m2)

abbrev pub count_within : ℕ → ℕ → Card → ℕ
count_within m1 m2 card = length (readings_within m1 m2 card)

abbrev pub sum_within : ℕ → ℕ → Card → ℤ
sum_within m1 m2 card = sum_of (readings_within m1 m2 card)

-- the keys of a sheet
abbrev pub keys_of : {K : Type 0} → Sheet K → List K
keys_of {K} = map (λ (x : K × Card). x.0)

module _ {K : Type 0} (𝓝 : Names K) where
  -- whether a key comes after the given one; where none is given every key does
  abbrev pub comes_after : Option K → K → Bool
  comes_after None key = true
  comes_after (Some given) key = is_lt (𝓝.order given key)

  -- the first key of the sheet after the given one, or the first of all
  abbrev pub next_name : Option K → Sheet K → Option K
  next_name given sheet = first_of (filter (comes_after given) (keys_of sheet))
