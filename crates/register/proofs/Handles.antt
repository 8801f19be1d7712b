-- Which handles are those of lines at rest, and which those of sittings, when the record of one place changes.
use Rattle.std.proofs.Common.{◌≡◌, ◌≢◌, ℕ, ◌<◌, Bool, true, false, cond, not, eqb, ◌⊎◌, List, [], ◌∷◌, length, get_or, set, is_none, is_some, Some, None, Ok, Option, sym, refl, ap, ◌∙◌, subst, inl, inr, arith, get_or-set_other, get_or-set_same, eq-eqb, eqb-true}
use Rattle.std.proofs.lemmas.Bool.{cases_eq}
use Rattle.std.proofs.lemmas.List.{get_or_past}
use Rattle.register.proofs.Telling.{first-false, never}
use Rattle.register.proofs.Vacancies.{differ, lowest-found, place-given}
use Rattle.register.specs.Calls.{Handle}
use Rattle.register.specs.Registers.{IsAtRest, IsInSitting, Keeps, KeepsOthers}
use Rattle.register.specs.Tables.{in_state, is_letter, line_of, lowest, resting_record, same_state, serial_in, state_in, stow_refusal, vacancy_in, with_serial}
use Rattle.register.specs.declared.refusal.Refusal.TheVariants.{NoSuchLine, NotAShelf, ShelfTaken}
use Rattle.register.specs.declared.register.Register.{Register}
use Rattle.register.specs.declared.table.Record.{Record}
use Rattle.register.specs.declared.table.State.{State}
use Rattle.register.specs.declared.table.State.TheVariants.{AtRest, Sitting, Stowed}

-- ---- the state of a record

abbrev pub rests : Option State → Bool
rests (Some AtRest) = true
rests _ = false

abbrev pub sits : Option State → Bool
sits (Some (Sitting recorded sheet)) = true
sits _ = false

rests-same : (s : State) → same_state s AtRest ≡ rests (Some s)
rests-same AtRest = refl
rests-same (Sitting recorded sheet) = refl
rests-same (Stowed letter) = refl

-- the test for a line at rest looks at the state alone
rests-is : (line : Option Record) → in_state AtRest line ≡ rests (state_in line)
rests-is None = refl
rests-is (Some line) = rests-same line.state

is-rest : (s : State) → rests (Some s) ≡ true → s ≡ AtRest
is-rest AtRest t = refl
is-rest (Sitting recorded sheet) t = never t
is-rest (Stowed letter) t = never t

at-rest : (line : Option Record) → in_state AtRest line ≡ true → state_in line ≡ Some AtRest
at-rest None t = never t
at-rest (Some line) t = ap Some (is-rest line.state (sym (rests-same line.state) ∙ t))

-- what lies on a shelf is neither at rest nor in a sitting
on-shelf : (letter : ℕ) (s : State) → same_state s (Stowed letter) ≡ true → (rests (Some s) ≡ false) × (sits (Some s) ≡ false)
on-shelf letter AtRest t = never t
on-shelf letter (Sitting recorded sheet) t = never t
on-shelf letter (Stowed b) t = (refl, refl)

stowed-apart : (letter : ℕ) (line : Option Record) → in_state (Stowed letter) line ≡ true → (rests (state_in line) ≡ false) × (sits (state_in line) ≡ false)
stowed-apart letter None t = never t
stowed-apart letter (Some line) t = on-shelf letter line.state t

pub shelf-apart : (ls : List (Option Record)) (letter place : ℕ) → lowest (in_state (Stowed letter)) ls ≡ Some place
    → (rests (state_in (get_or ls place None)) ≡ false) × (sits (state_in (get_or ls place None)) ≡ false)
shelf-apart ls letter place e = stowed-apart letter (get_or ls place None) (lowest-found (in_state (Stowed letter)) None ls place e).1

-- ---- the record at the place of a handle

-- there is no line with the serial, or the record has it
split : (serial : ℕ) (x : Option Record) → (with_serial serial x ≡ None) ⊎ ((with_serial serial x ≡ x) × (serial_in x ≡ serial))
split serial None = inl refl
split serial (Some line) =
    elim (eqb line.serial serial) as (λ b. eqb line.serial serial ≡ b → (cond b (Some line) None ≡ None) ⊎ ((cond b (Some line) None ≡ Some line) × (line.serial ≡ serial))) [
      | true ↦ (λ t. inr (refl, eqb-true line.serial serial t))
      | false ↦ (λ t. inl refl)
    ] refl

-- a line is the record of its place, and has the serial of its handle
pub record-there : (ls : List (Option Record)) (place serial : ℕ) (line : Record) → Some line ≡ line_of ls place serial → (get_or ls place None ≡ Some line) × (line.serial ≡ serial)
record-there ls place serial line e =
    elim (split serial (get_or ls place None)) [
      | inl none ↦ differ (cc)
      | inr same ↦ (sym same.0 ∙ sym e, ap serial_in e ∙ ap serial_in same.0 ∙ same.1)
    ]

pub state-of-rest : (ls : List (Option Record)) (place serial : ℕ) (line : Record) → Some line ≡ line_of ls place serial
    → in_state AtRest (Some line) ≡ true → state_in (get_or ls place None) ≡ Some AtRest
state-of-rest ls place serial line there t = ap state_in (record-there ls place serial line there).0 ∙ at-rest (Some line) t

pub state-of-sitting : (ls : List (Option Record)) (place serial : ℕ) (line : Record) (recorded sheet : ℕ) → Some line ≡ line_of ls place serial
    → state_in (Some line) ≡ Some (Sitting recorded sheet) → state_in (get_or ls place None) ≡ Some (Sitting recorded sheet)
state-of-sitting ls place serial line recorded sheet there e = ap state_in (record-there ls place serial line there).0 ∙ e

-- so is a line that is known by its state
state-there : (serial : ℕ) (x : Option Record) (s : State) → state_in (with_serial serial x) ≡ Some s → (state_in x ≡ Some s) × (serial_in x ≡ serial)
state-there serial x s e =
    elim (split serial x) [
      | inl none ↦ (let m : state_in (with_serial serial x) ≡ None = ap state_in none in differ (cc))
      | inr same ↦ (sym (ap state_in same.0) ∙ e, same.1)
    ]

pub within-lines : (ls : List (Option Record)) (i : ℕ) (line : Record) → get_or ls i None ≡ Some line → i < length ls
within-lines ls i line e = grind (arith, get_or_past)

-- a further line gets a free place, which is not that of a line that is there
none-is : (x : Option Record) → is_none x ≡ true → x ≡ None
none-is None t = refl
none-is (Some line) t = never t

pub vacant : (ls : List (Option Record)) (next place : ℕ) → Ok place ≡ vacancy_in ls next
    → (place < length ls) × (get_or ls place None ≡ None) × (state_in (get_or ls place None) ≡ None)
vacant ls next place e =
    let f = lowest-found is_none None ls place (place-given next place (lowest is_none ls) e).0 in
    let none = none-is (get_or ls place None) f.1 in
    (f.0, none, ap state_in none)

pub apart-from : (ls : List (Option Record)) (place own : ℕ) (line : Record) → get_or ls place None ≡ None → get_or ls own None ≡ Some line → place ≢ own
apart-from ls place own line free there e =
    let h : ◌≡◌ {A = Option Record} None (Some line) = sym free ∙ ap (λ (k : ℕ). get_or ls k None) e ∙ there in
    differ (cc)

-- a line that can be stowed is at rest
pub stowable-rests : (ls : List (Option Record)) (line : Option Record) (letter : ℕ) → None ≡ stow_refusal ls line letter → in_state AtRest line ≡ true
stowable-rests ls line letter e =
    not-false (in_state AtRest line)
    (first-false (not (in_state AtRest line)) NoSuchLine ((not (is_letter letter), NotAShelf) ∷ (is_some (lowest (in_state (Stowed letter)) ls), ShelfTaken) ∷ []) (sym e))
  where
    not-false : (b : Bool) → not b ≡ false → b ≡ true
    not-false true f = refl
    not-false false f = sym f

-- ---- a call that takes a handle

pub refused-rest : {N B : Type 0} (r : Register N) (own : Handle) → in_state AtRest (line_of r.table.lines own.place own.serial) ≡ false → IsAtRest r own → B
unfolding IsAtRest
refused-rest r own f t = never (sym f ∙ rests-is (line_of r.table.lines own.place own.serial) ∙ ap rests t)

pub refused-sitting : {N : Type 0} (r : Register N) (own : Handle)
    → ((recorded sheet : ℕ) → state_in (line_of r.table.lines own.place own.serial) ≡ Some (Sitting recorded sheet) → ⊥) → IsInSitting r own → ⊥
unfolding IsInSitting
refused-sitting r own none h = none h.0 h.1 h.2

-- a call that leaves the lines as they are
pub rest-still : {N : Type 0} (r r' : Register N) → r'.table.lines ≡ r.table.lines → Keeps IsAtRest r r'
unfolding IsAtRest
rest-still r r' e h t = ap (λ (ls : List (Option Record)). state_in (line_of ls h.place h.serial)) e ∙ t

pub sit-still : {N : Type 0} (r r' : Register N) → r'.table.lines ≡ r.table.lines → Keeps IsInSitting r r'
unfolding IsInSitting
sit-still r r' e h t = (t.0, t.1, ap (λ (ls : List (Option Record)). state_in (line_of ls h.place h.serial)) e ∙ t.2)

-- the record of a place is set
module _ {N : Type 0} (r r' : Register N) (i : ℕ) (y : Option Record) (put : r'.table.lines ≡ set r.table.lines i y) where
  line-elsewhere : (place serial : ℕ) → (place ≡ i → ⊥) → line_of r'.table.lines place serial ≡ line_of r.table.lines place serial
  line-elsewhere place serial apart =
      ap (λ (ls : List (Option Record)). line_of ls place serial) put ∙ ap (with_serial serial) (get_or-set_other r.table.lines i place y None apart)

  line-there : (serial : ℕ) → i < length r.table.lines → line_of r'.table.lines i serial ≡ with_serial serial y
  line-there serial within =
      ap (λ (ls : List (Option Record)). line_of ls i serial) put ∙ ap (with_serial serial) (get_or-set_same r.table.lines i y None within)

  -- a state that the line of the place did not have
  stays : (s : State) → (state_in (get_or r.table.lines i None) ≡ Some s → ⊥)
      → (place serial : ℕ) → state_in (line_of r.table.lines place serial) ≡ Some s → state_in (line_of r'.table.lines place serial) ≡ Some s
  stays s none place serial h =
      elim (cases_eq place i) [
        | inl e ↦ absurd (none (state-there serial (get_or r.table.lines i None) s (subst (λ (k : ℕ). state_in (line_of r.table.lines k serial) ≡ Some s) e h)).0)
        | inr apart ↦ ap state_in (line-elsewhere place serial apart) ∙ h
      ]

  pub all-rest : rests (state_in (get_or r.table.lines i None)) ≡ false → Keeps IsAtRest r r'
  unfolding IsAtRest
  all-rest f h = stays AtRest (λ e. never (sym f ∙ ap rests e)) h.place h.serial

  pub all-sit : sits (state_in (get_or r.table.lines i None)) ≡ false → Keeps IsInSitting r r'
  unfolding IsInSitting
  all-sit f h t = (t.0, t.1, stays (Sitting t.0 t.1) (λ e. never (sym f ∙ ap sits e)) h.place h.serial t.2)

  pub others-rest : (own : Handle) → own.place ≡ i → KeepsOthers IsAtRest own r r'
  unfolding IsAtRest
  others-rest own e h apart t = ap state_in (line-elsewhere h.place h.serial (λ f. apart (f ∙ sym e))) ∙ t

  pub others-sit : (own : Handle) → own.place ≡ i → KeepsOthers IsInSitting own r r'
  unfolding IsInSitting
  others-sit own e h apart t = (t.0, t.1, ap state_in (line-elsewhere h.place h.serial (λ f. apart (f ∙ sym e))) ∙ t.2)

  -- the line that was put there
  state-now : (own : Handle) (line : Record) → own.place ≡ i → i < length r.table.lines → y ≡ Some line → line.serial ≡ own.serial
      → state_in (line_of r'.table.lines own.place own.serial) ≡ Some line.state
  state-now own line e within is same =
      ap (λ (k : ℕ). state_in (line_of r'.table.lines k own.serial)) e
      ∙ ap state_in (line-there own.serial within ∙ ap (with_serial own.serial) is)
      ∙ ap (λ (b : Bool). state_in (cond b (Some line) None)) (eq-eqb line.serial own.serial same)

  pub rests-now : (own : Handle) (root : ℕ) → own.place ≡ i → i < length r.table.lines → y ≡ Some (resting_record own.serial root) → IsAtRest r' own
  unfolding IsAtRest
  rests-now own root e within is = state-now own (resting_record own.serial root) e within is refl

  pub sits-now : (own : Handle) (line : Record) (recorded sheet : ℕ) → own.place ≡ i → i < length r.table.lines → line.serial ≡ own.serial
      → y ≡ Some (record { serial = line.serial; root = line.root; state = Sitting recorded sheet }) → IsInSitting r' own
  unfolding IsInSitting
  sits-now own line recorded sheet e within same is =
      (recorded, sheet, state-now own (record { serial = line.serial; root = line.root; state = Sitting recorded sheet }) e within is same)

  -- a sitting has another working sheet
  pub sits-on : (line : Record) (recorded sheet : ℕ) → get_or r.table.lines i None ≡ Some line
      → y ≡ Some (record { serial = line.serial; root = line.root; state = Sitting recorded sheet }) → Keeps IsInSitting r r'
  unfolding IsInSitting
  sits-on line recorded sheet was is h t =
      elim (cases_eq h.place i) [
        | inl e ↦ (
            let there = state-there h.serial (get_or r.table.lines i None) (Sitting t.0 t.1) (subst (λ (k : ℕ). state_in (line_of r.table.lines k h.serial) ≡ Some (Sitting t.0 t.1)) e t.2) in
            (recorded, sheet, state-now h (record { serial = line.serial; root = line.root; state = Sitting recorded sheet }) e (within-lines r.table.lines i line was) is (sym (ap serial_in was) ∙ there.1))
            )
        | inr apart ↦ (t.0, t.1, ap state_in (line-elsewhere h.place h.serial apart) ∙ t.2)
      ]
