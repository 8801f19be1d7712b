-- What an accepted call does to the places of a register: which place it changes, what stood there, and what stands there then.
use Rattle.std.proofs.Common.{◌≡◌, ℕ, ◌+◌, ◌<◌, Bool, true, false, cond, not, List, [], ◌∷◌, ◌++◌, length, get_or, set, is_some, Some, None, Option, unwrap_or, sym, refl, ap, ◌∙◌, arith}
use Rattle.kinds.specs.Packed.{name_of}
use Rattle.pool.specs.Held.{Held}
use Rattle.tree.specs.Lookup.{last_of}
use Rattle.register.proofs.Changing.{at-live, place-of, within_of}
use Rattle.register.proofs.Vacancies.{is-stowed, lowest-found}
use Rattle.register.specs.Calls.{Answer, Call, Handle, abandons, asks, begins, branches, commits, done, enters, fetches, handed, opens, retires, stows, tallies}
use Rattle.register.specs.Contents.{Names, entered, last_sheet, sheet_of, stages_of}
use Rattle.register.specs.Declined.{not_after}
use Rattle.register.specs.Places.{Doing, Place, free, is_resting, is_sitting, is_stowed, live, none, place_of, resting, serial_at, sitting, stowed}
use Rattle.register.specs.Rules.{is_name}
use Rattle.register.specs.Shown.{Shown, next_handle}
use Rattle.register.specs.Steps.{on_shelf}
use Rattle.register.specs.Tables.{lowest}
use Rattle.register.specs.declared.entries.Change.{Change}
use Rattle.register.specs.declared.refusal.Refusal.{Refusal}

differ : {A : Type 0} → ◌≡◌ {A = ℕ} 0 1 → A
differ e = absurd (omega (arith, e))

-- ---- conditions that do not decline

-- the first does not hold, nor does any behind it
pub row-false : (b : Bool) (why : Refusal) (rest : Option Refusal) → cond b (Some why) rest ≡ None → (b ≡ false) × (rest ≡ None)
row-false false why rest e = (refl, e)
row-false true why rest e = differ (cc)

pub row-true : (b : Bool) (why : Refusal) (rest : Option Refusal) → cond (not b) (Some why) rest ≡ None → (b ≡ true) × (rest ≡ None)
row-true true why rest e = (refl, e)
row-true false why rest e = differ (cc)

-- ---- the line of a handle

-- the handle's line has these stages and is doing this
pub record Stands (xs : List Place) (handle : Handle) (stages : Held) (doing : Doing) : Type 0 where
  pub here : get_or xs handle.place free ≡ live handle.serial stages doing
  pub within : handle.place < length xs
  pub whole : place_of xs handle.place handle.serial ≡ live handle.serial stages doing

stands : (xs : List Place) (handle : Handle) (n : ℕ) (stages : Held) (doing : Doing) → place_of xs handle.place handle.serial ≡ live n stages doing
    → Stands xs handle stages doing
stands xs handle n stages doing e =
    let here = at-live xs handle.place handle.serial n stages doing e in
    record {
      here = here;
      within = within_of xs handle.place handle.serial stages doing here;
      whole = place-of xs handle.place handle.serial stages doing here;
    }

pub resting-at : (xs : List Place) (handle : Handle) → is_resting (place_of xs handle.place handle.serial) ≡ true → (stages : Held) × Stands xs handle stages resting
resting-at xs handle = one (place_of xs handle.place handle.serial) refl
  where
    one : (x : Place) → place_of xs handle.place handle.serial ≡ x → is_resting x ≡ true → (stages : Held) × Stands xs handle stages resting
    one free e t = differ (cc)
    one (live n h resting) e t = (h, stands xs handle n h resting e)
    one (live n h (sitting r g)) e t = differ (cc)
    one (live n h (stowed b)) e t = differ (cc)

pub sitting-at : (xs : List Place) (handle : Handle) → is_sitting (place_of xs handle.place handle.serial) ≡ true
    → (stages : Held) × (recorded : ℕ) × (sheet : Held) × Stands xs handle stages (sitting recorded sheet)
sitting-at xs handle = one (place_of xs handle.place handle.serial) refl
  where
    one : (x : Place) → place_of xs handle.place handle.serial ≡ x → is_sitting x ≡ true
        → (stages : Held) × (recorded : ℕ) × (sheet : Held) × Stands xs handle stages (sitting recorded sheet)
    one free e t = differ (cc)
    one (live n h resting) e t = differ (cc)
    one (live n h (sitting r g)) e t = (h, r, g, stands xs handle n h (sitting r g) e)
    one (live n h (stowed b)) e t = differ (cc)

-- what the lowest place is, where there is one
pub lowest-at : (test : Place → Bool) (xs : List Place) → is_some (lowest test xs) ≡ true
    → (unwrap_or (lowest test xs) 0 < length xs) × (test (get_or xs (unwrap_or (lowest test xs) 0) free) ≡ true)
lowest-at test xs = one (lowest test xs) refl
  where
    one : (o : Option ℕ) → lowest test xs ≡ o → is_some o ≡ true → (unwrap_or o 0 < length xs) × (test (get_or xs (unwrap_or o 0) free) ≡ true)
    one None e t = differ (cc)
    one (Some i) e t = lowest-found test free xs i e

-- the line on a shelf
pub stowed-at : (s : Shown) (letter : ℕ) → is_some (lowest (is_stowed letter) s.places) ≡ true → (stages : Held) × Stands s.places (on_shelf s letter) stages (stowed letter)
stowed-at s letter t =
    let xs : List Place = s.places in
    let place : ℕ = (on_shelf s letter).place in
    let (n, stages, here) = is-stowed letter (get_or xs place free) (lowest-at (is_stowed letter) xs t).1 in
    let found = here ∙ ap (λ (m : ℕ). live m stages (stowed letter)) (sym (ap serial_at here)) in
    (stages, stands xs (on_shelf s letter) (on_shelf s letter).serial stages (stowed letter) (place-of xs place (on_shelf s letter).serial stages (stowed letter) found))

-- ---- what each call does

module _ {K : Type 0} (𝓝 : Names K) (s s' : Shown) where
  -- the line of the handle changes
  pub record Changed (handle : Handle) (stages : Held) (doing : Doing) (after : Place) : Type 0 where
    pub stood : Stands s.places handle stages doing
    pub places-are : s'.places ≡ set s.places handle.place after
    pub next_is : s'.next ≡ s.next

  -- a line starts
  pub record Started (stages : Held) (a : Answer) : Type 0 where
    pub within : (next_handle s).place < length s.places
    pub here : get_or s.places (next_handle s).place free ≡ free
    pub places-are : s'.places ≡ set s.places (next_handle s).place (live s.next stages resting)
    pub next_is : s'.next ≡ s.next + 1
    pub answer-is : a ≡ handed (next_handle s)

  pub record Branches (handle : Handle) (a : Answer) : Type 0 where
    pub stages : Held
    pub stood : Stands s.places handle stages resting
    pub started : Started stages a

  pub record Begins (handle : Handle) (recorded : ℕ) (a : Answer) : Type 0 where
    pub stages : Held
    pub sheet : Held
    pub changed : Changed handle stages resting (live handle.serial stages (sitting recorded sheet))
    pub last : sheet.tree ≡ last_sheet stages.tree
    pub later : not_after recorded (last_of (stages_of 𝓝 stages.tree)) ≡ false
    pub answer-is : a ≡ done

  pub record Enters (handle : Handle) (bytes : List ℕ) (measured : ℕ) (change : Change) (a : Answer) : Type 0 where
    pub stages : Held
    pub recorded : ℕ
    pub before : Held
    pub sheet : Held
    pub changed : Changed handle stages (sitting recorded before) (live handle.serial stages (sitting recorded sheet))
    pub contents : sheet_of 𝓝 sheet.tree ≡ entered 𝓝 (𝓝.named (name_of bytes)) measured change (sheet_of 𝓝 before.tree)
    pub rule : is_name bytes ≡ true
    pub answer-is : a ≡ done

  pub record Commits (handle : Handle) (a : Answer) : Type 0 where
    pub before : Held
    pub recorded : ℕ
    pub sheet : Held
    pub stages : Held
    pub changed : Changed handle before (sitting recorded sheet) (live handle.serial stages resting)
    pub contents : stages_of 𝓝 stages.tree ≡ stages_of 𝓝 before.tree ++ (recorded, sheet_of 𝓝 sheet.tree) ∷ []
    pub answer-is : a ≡ done

  pub record Abandons (handle : Handle) (a : Answer) : Type 0 where
    pub stages : Held
    pub recorded : ℕ
    pub sheet : Held
    pub changed : Changed handle stages (sitting recorded sheet) (live handle.serial stages resting)
    pub answer-is : a ≡ done

  pub record Stows (handle : Handle) (letter : ℕ) (a : Answer) : Type 0 where
    pub stages : Held
    pub changed : Changed handle stages resting (live handle.serial stages (stowed letter))
    pub answer-is : a ≡ done

  pub record Fetches (letter : ℕ) (a : Answer) : Type 0 where
    pub stages : Held
    pub changed : Changed (on_shelf s letter) stages (stowed letter) (live (on_shelf s letter).serial stages resting)
    pub answer-is : a ≡ handed (on_shelf s letter)

  pub record Retires (handle : Handle) (a : Answer) : Type 0 where
    pub stages : Held
    pub changed : Changed handle stages resting free
    pub answer-is : a ≡ done

  abbrev pub Does : Call → Answer → Type 0
  Does opens a = Started none a
  Does (branches handle) a = Branches handle a
  Does (begins handle recorded) a = Begins handle recorded a
  Does (enters handle bytes measured change) a = Enters handle bytes measured change a
  Does (commits handle) a = Commits handle a
  Does (abandons handle) a = Abandons handle a
  Does (stows handle letter) a = Stows handle letter a
  Does (fetches letter) a = Fetches letter a
  Does (retires handle) a = Retires handle a
  Does tallies a = s' ≡ s
  Does (asks handle recorded question) a = s' ≡ s
