-- What the trees of a register hold. A card has readings by measured instant, a sheet has cards by name in the register's order,
-- and a line has stages by recorded instant, each with its sheet.
use Rattle.std.specs.Prelude.{ℕ, Bool, List, [], ◌∷◌, map, ℤ, is_some, Some, None, Option}
use Rattle.std.specs.declared.cmp.Ordering.{Ordering}
use Rattle.std.specs.Option.{unwrap_or}
use Rattle.kinds.specs.Instant.{instant_of}
use Rattle.std.specs.Ordering.{nat_cmp}
use Rattle.kinds.specs.declared.instant.Instant.{Instant}
use Rattle.kinds.specs.declared.name.Name.{Name}
use Rattle.pool.specs.Tree.{Tree, leaf}
use Rattle.pool.specs.declared.node.Words.{Words}
use Rattle.tree.specs.Lookup.{at_most, find, last}
use Rattle.tree.specs.Shape.{Item, items}
use Rattle.register.specs.Keyed.{drop_at, put_at, value_at}
use Rattle.register.specs.declared.entries.Change.{Change}
use Rattle.register.specs.declared.entries.Change.TheVariants.{Record, Correct, Withdraw}

-- the order of names that a register is made for: how a key goes into two words and comes back, how two keys compare, the key of a name,
-- and the name of a key
pub record Names (K : Type 0) : Type 0 where
  pub words : K → Words
  pub key : Words → K
  pub order : K → K → Ordering
  pub named : Name → K
  pub name : K → Name

abbrev pub names : {K : Type 0} → (K → Words) → (Words → K) → (K → K → Ordering) → (Name → K) → (K → Name) → Names K
names words key order named name = record { words = words; key = key; order = order; named = named; name = name }

-- instants are read from a node, and compare, by their number
abbrev pub instant_at : Words → Instant
instant_at words = instant_of words.low

abbrev pub earlier : Instant → Instant → Ordering
earlier a b = nat_cmp a.seconds b.seconds

abbrev pub Card : Type 0
Card = List (ℕ × ℤ)

abbrev pub Sheet : Type 0 → Type 0
Sheet K = List (K × Card)

unfoldable pub card_of : Tree → Card
card_of t = map (λ (x : Item Instant). (x.key.seconds, x.word)) (items instant_at t)

module _ {K : Type 0} (𝓝 : Names K) where
  unfoldable pub sheet_of : Tree → Sheet K
  sheet_of t = map (λ (x : Item K). (x.key, card_of x.nested)) (items 𝓝.key t)

  unfoldable pub stages_of : Tree → List (ℕ × Sheet K)
  stages_of t = map (λ (x : Item Instant). (x.key.seconds, sheet_of x.nested)) (items instant_at t)

  -- the card of a name; a name that is not on the sheet has an empty one
  abbrev pub card_at : K → Sheet K → Card
  card_at name sheet = unwrap_or (value_at 𝓝.order name sheet) []

  -- whether the name has a reading at the measured instant
  abbrev pub read_at : K → ℕ → Sheet K → Bool
  read_at name measured sheet = is_some (value_at nat_cmp measured (card_at name sheet))

  -- the sheet with this card for the name; a card without a reading takes the name off the sheet
  abbrev pub with_card : K → Card → Sheet K → Sheet K
  with_card name [] sheet = drop_at 𝓝.order name sheet
  with_card name (reading ∷ readings) sheet = put_at 𝓝.order name (reading ∷ readings) sheet

-- what an entry makes of a card
abbrev pub changed : Change → ℕ → Card → Card
changed (Record reading) measured card = put_at nat_cmp measured reading card
changed (Correct reading) measured card = put_at nat_cmp measured reading card
changed Withdraw measured card = drop_at nat_cmp measured card

-- what an entry makes of a sheet
unfoldable pub entered : {K : Type 0} → Names K → K → ℕ → Change → Sheet K → Sheet K
entered 𝓝 name measured change sheet = with_card 𝓝 name (changed change measured (card_at 𝓝 name sheet)) sheet

-- the nested tree of an item; none has the leaf
abbrev pub nested_in : {K : Type 0} → Option (Item K) → Tree
nested_in None = leaf
nested_in (Some x) = x.nested

-- the tree of a name's card, and the tree of the last stage's sheet
abbrev pub card_tree : {K : Type 0} → Names K → K → Tree → Tree
card_tree 𝓝 name sheet = nested_in (find 𝓝.key 𝓝.order name sheet)

-- the tree of the sheet as of a recorded instant: that of the last stage at or before it
abbrev pub sheet_tree_as_of : ℕ → Tree → Tree
sheet_tree_as_of recorded line = nested_in (at_most instant_at earlier (instant_of recorded) line)

abbrev pub last_sheet : Tree → Tree
last_sheet line = nested_in (last instant_at earlier line)
