-- Worked examples: a script, a small register and small trees, with names in the order of their bytes, and what comes out of them.
use Rattle.std.specs.Prelude.{◌≡◌, ℕ, zero, suc, List, [], ◌∷◌, ℤ, pos, neg_ℤ, Some, None, codes, Option}
use Rattle.std.specs.List.{AllByRecursion}
use Rattle.kinds.specs.Instant.{instant_of}
use Rattle.pool.specs.Held.{HoldsIn, held}
use Rattle.pool.specs.Tree.{Tree, fork, leaf}
use Rattle.pool.specs.declared.node.Node.{Node}
use Rattle.tree.specs.Insert.{compared, insert}
use Rattle.register.specs.Asked.{count_within, key_of, last_up_to, sheet_as_of, stages_from, sum_within}
use Rattle.register.specs.Calls.{Call, enters, opens}
use Rattle.register.specs.Contents.{Card, card_at, earlier, instant_at}
use Rattle.register.specs.Declined.{declined}
use Rattle.register.specs.History.{IsAsOf, IsTotal, known_at, stands}
use Rattle.register.specs.Places.{none, sitting}
use Rattle.register.specs.Refusals.{number_of}
use Rattle.register.specs.Shown.{Shown, with_line}
use Rattle.register.specs.Steps.{becomes}
use Rattle.register.specs.Trees.{changed_tree, entered_tree, instant_words}
use Rattle.register.specs.WorkedScript.{StepsFrom, forward, gauge, handle, history, made, script_calls}
use Rattle.register.specs.declared.entries.Change.TheVariants.{Record, Withdraw}
use Rattle.register.specs.declared.refusal.Refusal.{Refusal}
use Rattle.register.specs.declared.refusal.Refusal.TheVariants.{LinesExhausted, MeasuredLater, NameBroken, NodesShort}

-- ---- what the script tells

-- what stands for SG-7 as of a recorded instant, by the history, and its card on the sheet of the last stage up to then
abbrev pub standing : ℕ → ℕ → Option ℤ
standing recorded = stands (known_at recorded history) gauge

abbrev pub card_then : ℕ → Card
card_then recorded = card_at forward (key_of forward gauge) (sheet_as_of recorded (stages_from forward [] history))

-- as of a recorded instant, the latest reading up to a measured one, by the history and by the sheets
abbrev pub LatestIs : ℕ → ℕ → Option (ℕ × ℤ) → Type 0
LatestIs recorded measured answer = IsAsOf (standing recorded) measured answer × (last_up_to measured (card_then recorded) ≡ answer)

-- as of a recorded instant, the number and the sum of the readings from one measured instant to another, by both
abbrev pub TotalIs : ℕ → ℕ → ℕ → ℕ → ℤ → Type 0
TotalIs recorded from to count sum =
    IsTotal (standing recorded) from to count sum × (count_within from to (card_then recorded) ≡ count) × (sum_within from to (card_then recorded) ≡ sum)

-- ---- a sitting at 100, on the only line of a register of so many nodes

abbrev pub seated : ℕ → Shown
seated nodes = becomes (with_line (made nodes) none) handle none (sitting 100 none)

-- the call is accepted there, or refused
abbrev pub Accepts : ℕ → Call → Type 0
Accepts nodes call = declined forward (seated nodes) call ≡ None

abbrev pub RefusedAs : ℕ → Call → Refusal → ℕ → Type 0
RefusedAs nodes call why number = (declined forward (seated nodes) call ≡ Some why) × (number_of why ≡ number)

-- recording a reading of a name, measured at this instant
abbrev pub recording : List ℕ → ℕ → Call
recording name measured = enters handle name measured (Record (pos 1))

-- ---- a register of 1000 nodes after so many openings

abbrev pub opened : ℕ → Shown
opened zero = made 1000
opened (suc lines) = with_line (opened lines) none

-- ---- trees

-- a card after readings at these instants were recorded, the first one first
abbrev pub card_with : Tree → List ℕ → Tree
card_with card [] = card
card_with card (n ∷ ns) = card_with (changed_tree (Record (pos 1)) (instant_of n) card) ns

abbrev pub root_of : Tree → Option ℕ
root_of leaf = None
root_of (fork words word tall nested left right) = Some words.low

-- the six orders of three instants
abbrev pub six_orders : List (List ℕ)
six_orders =
    (10 ∷ 20 ∷ 30 ∷ [])
    ∷ (10 ∷ 30 ∷ 20 ∷ [])
    ∷ (20 ∷ 10 ∷ 30 ∷ [])
    ∷ (20 ∷ 30 ∷ 10 ∷ [])
    ∷ (30 ∷ 10 ∷ 20 ∷ [])
    ∷ (30 ∷ 20 ∷ 10 ∷ [])
    ∷ []

-- a line with a stage at 100, on whose sheet SG-7 has a reading at 40
abbrev pub small_line : Tree
small_line =
    let sheet = entered_tree forward (key_of forward gauge) (instant_of 40) (Record (pos 250)) leaf in
    insert (compared instant_at earlier (instant_of 100)) (instant_words (instant_of 100)) (pos 0) sheet leaf

-- ---- the examples

pub record WorkedExamples : Type 0 where
  -- the script's calls, with their answers, are steps on a new register of 1000 nodes
  pub script : StepsFrom (made 1000) script_calls
  -- as of 150, the latest reading up to 70 is -30 at 60
  pub before_the_second_stage : LatestIs 150 70 (Some (60, neg_ℤ (pos 30)))
  -- as of 200, that reading is withdrawn, and the one at 40 is corrected to 245
  pub at_the_second_stage : LatestIs 200 70 (Some (40, pos 245))
  -- as of 99, nothing was recorded yet
  pub before_the_first_stage : LatestIs 99 70 None
  -- as of 199, the total from 40 to 60 is 2 readings with the sum 220
  pub both_readings : TotalIs 199 40 60 2 (pos 220)
  -- in a sitting at 100 a reading may be measured at 100, and at 101 it is refused with 7
  pub measured_in_time : Accepts 1000 (recording gauge 100) × RefusedAs 1000 (recording gauge 101) MeasuredLater 7
  -- a name of 16 bytes is accepted; one of no byte, of 17, and one with a lower-case letter are refused with 5
  pub longest_name : Accepts 1000 (recording (codes "ABCDEFGHIJKLM-09") 100)
  pub broken_names : AllByRecursion (λ name. RefusedAs 1000 (recording name 100) NameBroken 5)
      ([] ∷ codes "ABCDEFGHIJKLM-090" ∷ codes "sG-7" ∷ [])
  -- 256 free nodes suffice for an entry, and 255 are refused with 11
  pub enough_nodes : Accepts 256 (recording gauge 100) × RefusedAs 255 (recording gauge 100) NodesShort 11
  -- with 63 live lines one more is opened, and with 64 the next opening is refused with 2
  pub most_lines : (declined forward (opened 63) opens ≡ None) × (declined forward (opened 64) opens ≡ Some LinesExhausted) × (number_of LinesExhausted ≡ 2)
  -- a card with readings at 10, 20 and 30 has 20 at its root, in whichever order they were recorded
  pub middle_at_the_root : AllByRecursion (λ instants. root_of (card_with leaf instants) ≡ Some 20) six_orders
  -- of readings recorded at 20, 10, 30 and 40, withdrawing the one at 10 leaves 30 at the root
  pub turned_by_withdrawing : root_of (changed_tree Withdraw (instant_of 10) (card_with leaf (20 ∷ 10 ∷ 30 ∷ 40 ∷ []))) ≡ Some 30
  -- with one stage, one name and one reading, 3 nodes are in use, in every pool that holds the line and nothing else
  pub three_nodes : (nodes : List Node) (free used root : ℕ) → HoldsIn nodes free used (held root small_line ∷ []) → used ≡ 3
