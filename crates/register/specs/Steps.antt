-- What a call does: a declined call answers its refusal and changes nothing, and any other does what is set out here.
-- Which node a tree has, what shape, and how far trees share nodes are left free within these facts.
use Rattle.std.specs.Prelude.{◌≡◌, ℕ, ◌+◌, ◌*◌, ◌≤◌, List, [], ◌∷◌, ◌++◌, Some, None, Option, slice_index_or}
use Rattle.std.specs.Option.{option_map, unwrap_or}
use Rattle.kinds.specs.Packed.{name_of}
use Rattle.pool.specs.Held.{Held}
use Rattle.tree.specs.Shape.{height}
use Rattle.register.specs.Asked.{count_within, key_of, last_up_to, next_name as next, sheet_as_of, sum_within}
use Rattle.register.specs.Calls.{Answer, Call, Handle, Question, abandons, as_of, asks, begins, branches, commits, counted, done, enters, fetches, found, handed, named, next_name, opens, refused, retires, stows, tallies, total, totalled}
use Rattle.register.specs.Contents.{Names, Sheet, card_at, card_tree, entered, last_sheet, sheet_of, stages_of}
use Rattle.register.specs.Declined.{declined}
use Rattle.register.specs.Places.{Doing, free, is_stowed, live, live_in, none, recorded_at, resting, serial_at, sheet_at, sitting, stages_at, stowed}
use Rattle.register.specs.Shown.{Shown, at, next_handle, spare, with_line, with_place, with_used}
use Rattle.register.specs.Tables.{lowest}
use Rattle.register.specs.declared.entries.Change.{Change}
use Rattle.register.specs.declared.refusal.Refusal.{Refusal}

-- the line of a handle has these stages, and is doing this
abbrev pub becomes : Shown → Handle → Held → Doing → Shown
becomes s handle stages doing = with_place s handle.place (live handle.serial stages doing)

-- the handle of the line on a shelf
abbrev pub on_shelf : Shown → ℕ → Handle
on_shelf s letter =
    let place = unwrap_or (lowest (is_stowed letter) s.places) 0 in
    record { place = place; serial = serial_at (slice_index_or s.places place free) }

module _ {K : Type 0} (𝓝 : Names K) (s : Shown) where
  -- a sitting begins: its working sheet is the last stage's sheet, or an empty one
  pub record Begun (handle : Handle) (recorded : ℕ) (s' : Shown) : Type 0 where
    pub sheet : Held
    pub last : sheet.tree ≡ last_sheet (stages_at (at s handle)).tree
    pub after : s' ≡ becomes s handle (stages_at (at s handle)) (sitting recorded sheet)

  -- an entry was made on the working sheet: at most three nodes a level of the sheet and of the named card, and two more
  pub record Entered (handle : Handle) (bytes : List ℕ) (measured : ℕ) (change : Change) (s' : Shown) : Type 0 where
    pub sheet : Held
    pub used : ℕ
    pub contents : sheet_of 𝓝 sheet.tree ≡ entered 𝓝 (𝓝.named (name_of bytes)) measured change (sheet_of 𝓝 (sheet_at (at s handle)).tree)
    pub grown : used ≤ s.used + 3 * height (sheet_at (at s handle)).tree + 3 * height (card_tree 𝓝 (𝓝.named (name_of bytes)) (sheet_at (at s handle)).tree) + 2
    pub after : s' ≡ becomes (with_used s used) handle (stages_at (at s handle)) (sitting (recorded_at (at s handle)) sheet)

  -- the working sheet was committed as the last stage: at most one node a level of the line, and one more
  pub record Committed (handle : Handle) (s' : Shown) : Type 0 where
    pub stages : Held
    pub used : ℕ
    pub contents : stages_of 𝓝 stages.tree ≡ stages_of 𝓝 (stages_at (at s handle)).tree ++ (recorded_at (at s handle), sheet_of 𝓝 (sheet_at (at s handle)).tree) ∷ []
    pub grown : used ≤ s.used + height (stages_at (at s handle)).tree + 1
    pub after : s' ≡ becomes (with_used s used) handle stages resting

  -- something was given up: no more nodes are in use than before
  pub record Dropped (left : Shown) (s' : Shown) : Type 0 where
    pub used : ℕ
    pub fewer : used ≤ s.used
    pub after : s' ≡ with_used left used

  -- the answer to a question about a sheet
  abbrev pub answer_to : Question → Sheet K → Answer
  answer_to (as_of name measured) sheet = found (last_up_to measured (card_at 𝓝 (key_of 𝓝 name) sheet))
  answer_to (total name from to) sheet =
      totalled (count_within from to (card_at 𝓝 (key_of 𝓝 name) sheet)) (sum_within from to (card_at 𝓝 (key_of 𝓝 name) sheet))
  answer_to (next_name given) sheet = named (option_map 𝓝.name (next 𝓝 (option_map (key_of 𝓝) given) sheet))

  -- what an accepted call does
  abbrev pub Accepted : Call → Answer → Shown → Type 0
  Accepted opens a s' = (a ≡ handed (next_handle s)) × (s' ≡ with_line s none)
  Accepted (branches handle) a s' = (a ≡ handed (next_handle s)) × (s' ≡ with_line s (stages_at (at s handle)))
  Accepted (begins handle recorded) a s' = (a ≡ done) × Begun handle recorded s'
  Accepted (enters handle bytes measured change) a s' = (a ≡ done) × Entered handle bytes measured change s'
  Accepted (commits handle) a s' = (a ≡ done) × Committed handle s'
  Accepted (abandons handle) a s' = (a ≡ done) × Dropped (becomes s handle (stages_at (at s handle)) resting) s'
  Accepted (stows handle letter) a s' = (a ≡ done) × (s' ≡ becomes s handle (stages_at (at s handle)) (stowed letter))
  Accepted (fetches letter) a s' =
      (a ≡ handed (on_shelf s letter)) × (s' ≡ becomes s (on_shelf s letter) (stages_at (at s (on_shelf s letter))) resting)
  Accepted (retires handle) a s' = (a ≡ done) × Dropped (with_place s handle.place free) s'
  Accepted tallies a s' = (a ≡ counted (record { in_use = s.used; free = spare s; lines = live_in s.places })) × (s' ≡ s)
  Accepted (asks handle recorded question) a s' =
      (a ≡ answer_to question (sheet_as_of recorded (stages_of 𝓝 (stages_at (at s handle)).tree))) × (s' ≡ s)

-- a declined call changes nothing
abbrev pub Unless : Option Refusal → Answer → Shown → Shown → Type 0 → Type 0
Unless None a s s' accepted = accepted
Unless (Some why) a s s' accepted = (a ≡ refused why) × (s' ≡ s)

-- a call, its answer, and what is shown before and after it
abbrev pub Step : {K : Type 0} → Names K → Shown → Call → Answer → Shown → Type 0
Step 𝓝 s call a s' = Unless (declined 𝓝 s call) a s s' (Accepted 𝓝 s call a s')
