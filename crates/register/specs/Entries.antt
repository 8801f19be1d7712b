-- What an entry needs, and what it finds on a sheet.
use Rattle.std.specs.Prelude.{◌≡◌, ℕ, ◌+◌, ◌<◌, ◌≤◌, true, false, ◌||◌, List, [], ◌∷◌, length, is_some, Some, None, Ok, Err, Option, Result, nat_lt}
use Rattle.kinds.specs.declared.instant.Instant.{Instant}
use Rattle.kinds.specs.declared.reading.Reading.{Reading}
use Rattle.pool.specs.Held.{Held, Holds, held}
use Rattle.pool.specs.Sound.{memory_of, used_of}
use Rattle.pool.specs.Tree.{Tree}
use Rattle.pool.specs.declared.pool.Pool.{Pool}
use Rattle.tree.specs.Lookup.{find}
use Rattle.tree.specs.Shape.{Balanced, height}
use Rattle.register.specs.Contents.{Names, card_tree, earlier, instant_at}
use Rattle.register.specs.Declined.{lacking, occupied, out_of_range, too_high}
use Rattle.register.specs.Refusals.{first_of}
use Rattle.register.specs.Shapes.{Filed, SheetWith}
use Rattle.register.specs.declared.entries.Change.{Change}
use Rattle.register.specs.declared.entries.Change.TheVariants.{Record, Correct, Withdraw}
use Rattle.register.specs.declared.refusal.Refusal.{Refusal}
use Rattle.register.specs.declared.refusal.Refusal.TheVariants.{NoReading, NodesShort, ReadingOutOfRange, ReadingThere, TreeTooHigh}

-- the reading that stands there after the entry, or none
abbrev pub Stands : Change → Option Reading → Type 0
Stands (Record microhertz) None = ⊥
Stands (Record microhertz) (Some reading) = reading.microhertz ≡ microhertz
Stands (Correct microhertz) None = ⊥
Stands (Correct microhertz) (Some reading) = reading.microhertz ≡ microhertz
Stands Withdraw None = Unit {0}
Stands Withdraw (Some reading) = ⊥

-- the reading of an entry, where it is in range
abbrev pub Readable : Change → Result (Option Reading) Refusal → Type 0
Readable change (Ok reading) = (out_of_range change ≡ false) × Stands change reading
Readable change (Err why) = (out_of_range change ≡ true) × (why ≡ ReadingOutOfRange)

-- why an entry cannot be made on the sheet, with so many nodes free
abbrev pub entry_refusal : {K : Type 0} → Names K → Tree → K → Instant → Change → ℕ → Option Refusal
entry_refusal 𝓝 sheet name measured change spare =
    let card = card_tree 𝓝 name sheet in
    let there = is_some (find instant_at earlier measured card) in
    first_of (
    (too_high sheet || too_high card, TreeTooHigh) ∷
    (occupied change there, ReadingThere) ∷
    (lacking change there, NoReading) ∷
    (nat_lt spare 256, NodesShort) ∷
    [])

-- a card that can be changed
pub record Changeable (p : Pool) (card : ℕ) : Type 0 where
  pub t : Tree
  pub others : List Held
  pub holds : Holds p (held card t ∷ others)
  pub few : length others < 1000
  pub balanced : Balanced t
  pub low : height t ≤ 24
  pub room : used_of p + 80 ≤ length (memory_of p)

-- a sheet on which an entry about the name can be made
pub record Enterable {K : Type 0} (𝓝 : Names K) (p : Pool) (sheet : ℕ) (name : K) : Type 0 where
  pub t : Tree
  pub others : List Held
  pub holds : Holds p (held sheet t ∷ others)
  pub few : length others < 900
  pub sturdy : SheetWith Balanced Filed t
  pub low : height t ≤ 24
  pub low_card : height (card_tree 𝓝 name t) ≤ 24
  pub room : used_of p + 256 ≤ length (memory_of p)
