-- What the calls find in the trees of a line before they change anything, and how far the trees are too high for it.
use Rattle.std.specs.Prelude.{◌≡◌, ℕ, Bool, true, false, not, ◌||◌, List, [], ◌∷◌, Some, None, Ok, Err, Option, Result, nat_le}
use Rattle.kinds.specs.Packed.{name_of}
use Rattle.kinds.specs.declared.instant.Instant.{Instant}
use Rattle.pool.specs.Held.{CarriesIn}
use Rattle.pool.specs.Tree.{Tree}
use Rattle.pool.specs.declared.node.Node.{Node}
use Rattle.tree.specs.Lookup.{at_most, last}
use Rattle.tree.specs.Shape.{Balanced, Item}
use Rattle.tree.specs.declared.root.Root.{Root}
use Rattle.register.specs.Calls.{Handle}
use Rattle.register.specs.Contents.{Names, card_tree, earlier, instant_at, last_sheet, nested_in, sheet_tree_as_of}
use Rattle.register.specs.Declined.{too_high}
use Rattle.register.specs.Places.{is_resting, stages_at}
use Rattle.register.specs.Refusals.{first_of}
use Rattle.register.specs.Rules.{is_name}
use Rattle.register.specs.Shapes.{Filed, LineWith}
use Rattle.register.specs.Shown.{Shown, at}
use Rattle.register.specs.declared.refusal.Refusal.{Refusal}
use Rattle.register.specs.declared.refusal.Refusal.TheVariants.{NameBroken, NoSuchLine, NotLater, TreeTooHigh}

-- the recorded instant is not greater than that of the last stage
abbrev pub not_after_item : ℕ → Option (Item Instant) → Bool
not_after_item recorded None = false
not_after_item recorded (Some stage) = nat_le recorded stage.key.seconds

abbrev pub not_after_stage : ℕ → Option (Instant × Root) → Bool
not_after_stage recorded None = false
not_after_stage recorded (Some stage) = nat_le recorded stage.0.seconds

-- the root of the stage's sheet
abbrev pub sheet_in : Option (Instant × Root) → ℕ
sheet_in None = 0
sheet_in (Some stage) = stage.1.link

abbrev pub begin_refusal : Tree → ℕ → Option Refusal
begin_refusal line recorded =
    first_of ((not_after_item recorded (last instant_at earlier line), NotLater) ∷ (too_high line, TreeTooHigh) ∷ [])

-- the root of the last stage's sheet, or the refusal
abbrev pub SheetBefore : List Node → Tree → ℕ → Result ℕ Refusal → Type 0
SheetBefore mem line recorded (Ok sheet) = (begin_refusal line recorded ≡ None) × CarriesIn mem sheet (last_sheet line)
SheetBefore mem line recorded (Err why) = begin_refusal line recorded ≡ Some why

-- the tree of the sheet as of an instant
abbrev pub sheet_up_to : Instant → Tree → Tree
sheet_up_to recorded line = nested_in (at_most instant_at earlier recorded line)

-- the root of that sheet, or a refusal where the line or the sheet is too high
abbrev pub SheetFound : List Node → Tree → Instant → Result ℕ Refusal → Type 0
SheetFound mem line recorded (Ok sheet) =
    ((too_high line || too_high (sheet_up_to recorded line)) ≡ false) × CarriesIn mem sheet (sheet_up_to recorded line)
SheetFound mem line recorded (Err why) = ((too_high line || too_high (sheet_up_to recorded line)) ≡ true) × (why ≡ TreeTooHigh)

-- the root of a name's card on that sheet, or a refusal where the line, the sheet or the card is too high
module _ {K : Type 0} (𝓝 : Names K) where
  abbrev pub card_too_high : Tree → Instant → K → Bool
  card_too_high line recorded name =
      too_high line || (too_high (sheet_up_to recorded line) || too_high (card_tree 𝓝 name (sheet_up_to recorded line)))

  abbrev pub CardFound : List Node → Tree → Instant → K → Result ℕ Refusal → Type 0
  CardFound mem line recorded name (Ok card) =
      (card_too_high line recorded name ≡ false) × CarriesIn mem card (card_tree 𝓝 name (sheet_up_to recorded line))
  CardFound mem line recorded name (Err why) = (card_too_high line recorded name ≡ true) × (why ≡ TreeTooHigh)

  -- why a question about one name is declined, but for its range
  abbrev pub card_refusal : Shown → Handle → ℕ → List ℕ → Option Refusal
  card_refusal s handle recorded bytes =
      let line = (stages_at (at s handle)).tree in
      let sheet = sheet_tree_as_of recorded line in
      first_of (
      (not (is_resting (at s handle)), NoSuchLine) ∷
      (not (is_name bytes), NameBroken) ∷
      (too_high line || (too_high sheet || too_high (card_tree 𝓝 (𝓝.named (name_of bytes)) sheet)), TreeTooHigh) ∷
      [])

  -- the root of the name's card, or the refusal
  abbrev pub CardTold : List Node → Shown → Handle → ℕ → List ℕ → Result ℕ Refusal → Type 0
  CardTold mem s handle recorded bytes (Ok card) =
      (card_refusal s handle recorded bytes ≡ None)
      × CarriesIn mem card (card_tree 𝓝 (𝓝.named (name_of bytes)) (sheet_tree_as_of recorded (stages_at (at s handle)).tree))
  CardTold mem s handle recorded bytes (Err why) = card_refusal s handle recorded bytes ≡ Some why

-- the card that was found is a card
abbrev pub CardReady : List Node → Result ℕ Refusal → Type 0
CardReady mem (Ok card) = (t : Tree) × CarriesIn mem card t × Filed t
CardReady mem (Err why) = Unit {0}

-- the root of the line at rest, or the refusal where no line at rest has the handle
abbrev pub RestTold : List Node → Shown → Handle → Result ℕ Refusal → Type 0
RestTold mem s handle (Ok root) = (is_resting (at s handle) ≡ true) × CarriesIn mem root (stages_at (at s handle)).tree
RestTold mem s handle (Err why) = (is_resting (at s handle) ≡ false) × (why ≡ NoSuchLine)

-- its trees are balanced, and its cards are filed
abbrev pub LineReady : List Node → Result ℕ Refusal → Type 0
LineReady mem (Ok root) = (t : Tree) × CarriesIn mem root t × LineWith Balanced Balanced Filed t
LineReady mem (Err why) = Unit {0}
