-- What each call leaves of the places: at most one line on each shelf, which lines are at rest or sitting, and which calls
-- cannot be refused then.
use Rattle.std.proofs.Common.{◌≡◌, ℕ, ◌<◌, Bool, true, false, not, List, [], ◌∷◌, length, get_or, set, is_some, Some, None, unwrap_or, sym, refl, ap, ◌∙◌, subst, inl, inr, arith, get_or-set_other, get_or-set_same}
use Rattle.std.proofs.lemmas.Bool.{cases_eq}
use Rattle.pool.specs.Held.{Held}
use Rattle.register.proofs.Runs.{stayed, unrefused, went}
use Rattle.register.proofs.Shelves.{Unstowed, bare_set, lowest-none, none-lowest, not_some, others-stay, put-there, rests-at, single-free, single-set, single-stowed, sits-at}
use Rattle.register.proofs.Vacancies.{is_free_lem, lowest-found}
use Rattle.register.specs.Calls.{Answer, Call, Handle, abandons, asks, begins, branches, commits, done, enters, fetches, handed, opens, refused, retires, stows, tallies}
use Rattle.register.specs.Contents.{Names}
use Rattle.register.specs.Declined.{declined, no_place, no_serial}
use Rattle.register.specs.Places.{Place, free, is_free, is_resting, is_sitting, is_stowed, live, place_of, resting, sitting, stages_at, stowed}
use Rattle.register.specs.Refusals.{first_of}
use Rattle.register.specs.Shelves.{Bare, Single}
use Rattle.register.specs.Shown.{Shown, at, newly_made, next_handle}
use Rattle.register.specs.Steps.{Accepted, Step, Unless, on_shelf}
use Rattle.register.specs.Tables.{is_letter, lowest}
use Rattle.register.specs.declared.entries.Change.{Change}
use Rattle.register.specs.declared.refusal.Refusal.{Refusal}
use Rattle.register.specs.declared.refusal.Refusal.TheVariants.{LinesExhausted, NoSuchLine, NotAShelf, SerialsExhausted, ShelfEmpty, ShelfTaken}

differ : {A : Type 0} → ◌≡◌ {A = ℕ} 0 1 → A
differ e = absurd (omega (arith, e))

-- ---- conditions that do not hold

rows-false : (b : Bool) (why : Refusal) (rows : List (Bool × Refusal)) → first_of ((b, why) ∷ rows) ≡ None → (b ≡ false) × (first_of rows ≡ None)
rows-false false why rows e = (refl, e)
rows-false true why rows e = differ (cc)

not-false : (b : Bool) → not b ≡ false → b ≡ true
not-false true e = refl
not-false false e = differ (cc)

-- what the search finds is within the list and passes the test
found-there : {A : Type 0} (test : A → Bool) (d : A) (xs : List A) → is_some (lowest test xs) ≡ true
    → (unwrap_or (lowest test xs) 0 < length xs) × (test (get_or xs (unwrap_or (lowest test xs) 0) d) ≡ true)
found-there {A} test d xs t =
    elim (lowest test xs) as (λ o. lowest test xs ≡ o → is_some o ≡ true → (unwrap_or o 0 < length xs) × (test (get_or xs (unwrap_or o 0) d) ≡ true)) [
      | None ↦ (λ e t. differ (cc))
      | Some i ↦ (λ e t. lowest-found test d xs i e)
    ] refl t

-- ---- which places change

-- one place changed at most, and no line was laid on a shelf
pub data Moved (xs xs' : List Place) : Type 0 where
  same : xs' ≡ xs → Moved xs xs'
  one : (i : ℕ) (y : Place) → Unstowed y → xs' ≡ set xs i y → Moved xs xs'

bare-moved : (xs xs' : List Place) (letter : ℕ) → Moved xs xs' → Bare xs letter → Bare xs' letter
bare-moved xs xs' letter (same e) bare = subst (λ (z : List Place). Bare z letter) (sym e) bare
bare-moved xs xs' letter (one i y off e) bare = subst (λ (z : List Place). Bare z letter) (sym e) (bare_set xs i y letter (off letter) bare)

single-moved : (xs xs' : List Place) → Moved xs xs' → Single xs → Single xs'
single-moved xs xs' (same e) single = subst (λ (z : List Place). Single z) (sym e) single
single-moved xs xs' (one i y off e) single = subst (λ (z : List Place). Single z) (sym e) (single-set xs i y off single)

abbrev pub is_stowing : Call → Bool
is_stowing opens = false
is_stowing (branches handle) = false
is_stowing (begins handle recorded) = false
is_stowing (enters handle bytes measured change) = false
is_stowing (commits handle) = false
is_stowing (abandons handle) = false
is_stowing (stows handle letter) = true
is_stowing (fetches letter) = false
is_stowing (retires handle) = false
is_stowing tallies = false
is_stowing (asks handle recorded question) = false

-- a register newly made has no line on a shelf
pub single-new : (nodes first : ℕ) → Single (newly_made nodes first).places
single-new nodes first = single-free 64

module _ {K : Type 0} (𝓝 : Names K) (s s' : Shown) where
  accepted-moved : (call : Call) (a : Answer) → is_stowing call ≡ false → Accepted 𝓝 s call a s' → Moved s.places s'.places
  accepted-moved opens a t h = one _ _ (λ letter. refl) (ap (λ (z : Shown). z.places) h.1)
  accepted-moved (branches handle) a t h = one _ _ (λ letter. refl) (ap (λ (z : Shown). z.places) h.1)
  accepted-moved (begins handle recorded) a t h = one _ _ (λ letter. refl) (ap (λ (z : Shown). z.places) h.1.after)
  accepted-moved (enters handle bytes measured change) a t h = one _ _ (λ letter. refl) (ap (λ (z : Shown). z.places) h.1.after)
  accepted-moved (commits handle) a t h = one _ _ (λ letter. refl) (ap (λ (z : Shown). z.places) h.1.after)
  accepted-moved (abandons handle) a t h = one _ _ (λ letter. refl) (ap (λ (z : Shown). z.places) h.1.after)
  accepted-moved (stows handle letter) a t h = differ (cc)
  accepted-moved (fetches letter) a t h = one _ _ (λ letter. refl) (ap (λ (z : Shown). z.places) h.1)
  accepted-moved (retires handle) a t h = one _ _ (λ letter. refl) (ap (λ (z : Shown). z.places) h.1.after)
  accepted-moved tallies a t h = same (ap (λ (z : Shown). z.places) h.1)
  accepted-moved (asks handle recorded question) a t h = same (ap (λ (z : Shown). z.places) h.1)

  moved : (call : Call) (a : Answer) → is_stowing call ≡ false → Step 𝓝 s call a s' → Moved s.places s'.places
  moved call a t step =
      elim (declined 𝓝 s call) as (λ o. Unless o a s s' (Accepted 𝓝 s call a s') → Moved s.places s'.places) [
        | None ↦ (λ h. accepted-moved call a t h)
        | Some why ↦ (λ h. same (ap (λ (z : Shown). z.places) h.1))
      ] step

  -- only a stowing lays a line on a shelf
  pub bare-kept : (call : Call) (a : Answer) → is_stowing call ≡ false → Step 𝓝 s call a s' → (letter : ℕ) → Bare s.places letter → Bare s'.places letter
  bare-kept call a t step letter = bare-moved s.places s'.places letter (moved call a t step)

  -- a stowing meets a bare shelf
  stow-conditions : (handle : Handle) (letter : ℕ) → declined 𝓝 s (stows handle letter) ≡ None → (is_resting (at s handle) ≡ true) × (is_letter letter ≡ true) × Bare s.places letter
  stow-conditions handle letter e =
      let shelf = is_some (lowest (is_stowed letter) s.places) in
      let first = rows-false (not (is_resting (at s handle))) NoSuchLine ((not (is_letter letter), NotAShelf) ∷ (shelf, ShelfTaken) ∷ []) e in
      let second = rows-false (not (is_letter letter)) NotAShelf ((shelf, ShelfTaken) ∷ []) first.1 in
      let third = rows-false shelf ShelfTaken [] second.1 in (
        not-false (is_resting (at s handle)) first.0,
        not-false (is_letter letter) second.0,
        lowest-none (is_stowed letter) free refl s.places (not_some (lowest (is_stowed letter) s.places) third.0),
      )

  -- whatever the call, at most one line lies on each shelf
  pub single-kept : (call : Call) (a : Answer) → Step 𝓝 s call a s' → Single s.places → Single s'.places
  single-kept (stows handle letter) a step single =
      elim (declined 𝓝 s (stows handle letter)) as (λ o. declined 𝓝 s (stows handle letter) ≡ o → Unless o a s s' (Accepted 𝓝 s (stows handle letter) a s') → Single s'.places) [
        | None ↦ (λ e h.
            subst (λ (z : Shown). Single z.places) (sym h.1)
            (single-stowed s.places handle.place handle.serial letter (stages_at (at s handle)) (stow-conditions handle letter e).2 single))
        | Some why ↦ (λ e h. subst (λ (z : Shown). Single z.places) (sym h.1) single)
      ] refl step
  single-kept opens a step single = single-moved s.places s'.places (moved opens a refl step) single
  single-kept (branches handle) a step single = single-moved s.places s'.places (moved (branches handle) a refl step) single
  single-kept (begins handle recorded) a step single = single-moved s.places s'.places (moved (begins handle recorded) a refl step) single
  single-kept (enters handle bytes measured change) a step single = single-moved s.places s'.places (moved (enters handle bytes measured change) a refl step) single
  single-kept (commits handle) a step single = single-moved s.places s'.places (moved (commits handle) a refl step) single
  single-kept (abandons handle) a step single = single-moved s.places s'.places (moved (abandons handle) a refl step) single
  single-kept (fetches letter) a step single = single-moved s.places s'.places (moved (fetches letter) a refl step) single
  single-kept (retires handle) a step single = single-moved s.places s'.places (moved (retires handle) a refl step) single
  single-kept tallies a step single = single-moved s.places s'.places (moved tallies a refl step) single
  single-kept (asks handle recorded question) a step single = single-moved s.places s'.places (moved (asks handle recorded question) a refl step) single

  -- ---- a new line

  -- the new line is at rest, at a place of its own
  pub record Added (new : Handle) : Type 0 where
    pub rests : is_resting (at s' new) ≡ true
    pub apart : (old : Handle) → is_resting (at s old) ≡ true → new.place ≡ old.place → ⊥
    pub stays : (old : Handle) → is_resting (at s old) ≡ true → is_resting (at s' old) ≡ true

  added-line : (new : Handle) (stages : Held) → no_place s ≡ false → handed new ≡ handed (next_handle s)
      → s'.places ≡ set s.places (next_handle s).place (live s.next stages resting) → Added new
  added-line new stages room e after =
      let place = (next_handle s).place in
      let there = found-there is_free free s.places (not-false (is_some (lowest is_free s.places)) room) in
      let is : new ≡ next_handle s = cc in
      let here : get_or s.places place free ≡ free = is_free_lem (get_or s.places place free) there.1 in
      let apart : (old : Handle) → is_resting (at s old) ≡ true → old.place ≡ place → ⊥ =
      (λ old rests same.
      let lives = rests-at s.places old.place old.serial rests in
      let f : free ≡ live old.serial lives.stages resting = sym here ∙ ap (λ (i : ℕ). get_or s.places i free) (sym same) ∙ lives.here in
      differ (cc)) in
      record {
        rests =
            subst (λ (h : Handle). is_resting (at s' h) ≡ true) (sym is)
            (subst (λ (z : List Place). is_resting (place_of z place s.next) ≡ true) (sym after)
            (ap is_resting (put-there s.places place s.next stages resting there.0)));
        apart = λ old rests same. apart old rests (sym same ∙ ap (λ (h : Handle). h.place) is);
        stays = λ old rests.
            subst (λ (z : List Place). is_resting (place_of z old.place old.serial) ≡ true) (sym after)
            (ap is_resting (others-stay s.places place old.place old.serial (live s.next stages resting) (apart old rests)) ∙ rests);
      }

  pub opened : (new : Handle) → Step 𝓝 s opens (handed new) s' → Added new
  opened new step =
      let (e, (is, after)) = went 𝓝 s s' opens (handed new) refl step in
      let room = (rows-false (no_place s) LinesExhausted ((no_serial s, SerialsExhausted) ∷ []) e).0 in
      added-line new _ room is (ap (λ (z : Shown). z.places) after)

  pub branched : (old new : Handle) → Step 𝓝 s (branches old) (handed new) s' → Added new
  branched old new step =
      let (e, (is, after)) = went 𝓝 s s' (branches old) (handed new) refl step in
      let rest = (rows-false (not (is_resting (at s old))) NoSuchLine ((no_place s, LinesExhausted) ∷ (no_serial s, SerialsExhausted) ∷ []) e).1 in
      let room = (rows-false (no_place s) LinesExhausted ((no_serial s, SerialsExhausted) ∷ []) rest).0 in
      added-line new _ room is (ap (λ (z : Shown). z.places) after)

  -- ---- a line comes off a shelf, and goes back

  -- the line of the shelf is at rest, and the shelf is bare
  pub record Fetched (letter : ℕ) (line : Handle) : Type 0 where
    pub letter-is : is_letter letter ≡ true
    pub rests : is_resting (at s' line) ≡ true
    pub bare : Bare s'.places letter

  pub fetched : (letter : ℕ) (line : Handle) → Single s.places → Step 𝓝 s (fetches letter) (handed line) s' → Fetched letter line
  fetched letter line single step =
      let (e, (given, after)) = went 𝓝 s s' (fetches letter) (handed line) refl step in
      let found = is_some (lowest (is_stowed letter) s.places) in
      let first = rows-false (not (is_letter letter)) NotAShelf ((not found, ShelfEmpty) ∷ []) e in
      let second = rows-false (not found) ShelfEmpty [] first.1 in
      let there = found-there (is_stowed letter) free s.places (not-false found second.0) in
      let place = (on_shelf s letter).place in
      let serial = (on_shelf s letter).serial in
      let stages = stages_at (at s (on_shelf s letter)) in
      let put : s'.places ≡ set s.places place (live serial stages resting) = ap (λ (z : Shown). z.places) after in
      let is : line ≡ on_shelf s letter = cc in
      let elsewhere : (i : ℕ) → (i ≡ place → ⊥) → is_stowed letter (get_or s.places i free) ≡ false =
      (λ i apart.
      elim (is_stowed letter (get_or s.places i free)) as (λ b. is_stowed letter (get_or s.places i free) ≡ b → b ≡ false) [
        | true ↦ (λ t. absurd (apart (single letter i place t there.1)))
        | false ↦ (λ t. refl)
      ] refl) in
      record {
        letter-is = not-false (is_letter letter) first.0;
        rests =
            subst (λ (h : Handle). is_resting (at s' h) ≡ true) (sym is)
            (subst (λ (z : List Place). is_resting (place_of z place serial) ≡ true) (sym put)
            (ap is_resting (put-there s.places place serial stages resting there.0)));
        bare = subst (λ (z : List Place). Bare z letter) (sym put) (λ i.
            elim (cases_eq i place) [
              | inl f ↦
                  ap (λ (k : ℕ). is_stowed letter (get_or (set s.places place (live serial stages resting)) k free)) f
                  ∙ ap (is_stowed letter) (get_or-set_same s.places place (live serial stages resting) free there.0)
              | inr apart ↦
                  ap (is_stowed letter) (get_or-set_other s.places place i (live serial stages resting) free apart)
                  ∙ elsewhere i apart
            ]);
      }

  -- a shelf from which no line could be fetched is bare
  pub unfetched : (letter : ℕ) (why : Refusal) → is_letter letter ≡ true → Step 𝓝 s (fetches letter) (refused why) s' → Bare s'.places letter
  unfetched letter why is step =
      let shelf = lowest (is_stowed letter) s.places in
      let empty : Bare s.places letter =
      elim (is_some shelf) as (λ b. is_some shelf ≡ b → Bare s.places letter) [
        | true ↦ (λ t. absurd (unrefused 𝓝 s s' (fetches letter) why (rw (is, t) refl) step))
        | false ↦ (λ t. lowest-none (is_stowed letter) free refl s.places (not_some shelf t))
      ] refl in
      subst (λ (z : Shown). Bare z.places letter) (sym (stayed 𝓝 s s' (fetches letter) why step)) empty

  -- another line stays at rest
  pub stowed-apart : (line other : Handle) (letter : ℕ) → Step 𝓝 s (stows line letter) done s' → (other.place ≡ line.place → ⊥) → is_resting (at s other) ≡ true → is_resting (at s' other) ≡ true
  stowed-apart line other letter step apart rests =
      let (e, (is, after)) = went 𝓝 s s' (stows line letter) done refl step in
      subst (λ (z : Shown). is_resting (at z other) ≡ true) (sym after)
      (ap is_resting (others-stay s.places line.place other.place other.serial (live line.serial (stages_at (at s line)) (stowed letter)) apart) ∙ rests)

  -- ---- sittings

  put-resting : (line : Handle) (stages : Held) → line.place < length s.places → s'.places ≡ set s.places line.place (live line.serial stages resting) → is_resting (at s' line) ≡ true
  put-resting line stages within put =
      subst (λ (z : List Place). is_resting (place_of z line.place line.serial) ≡ true) (sym put)
      (ap is_resting (put-there s.places line.place line.serial stages resting within))

  put-sitting : (line : Handle) (stages : Held) (recorded : ℕ) (sheet : Held) → line.place < length s.places → s'.places ≡ set s.places line.place (live line.serial stages (sitting recorded sheet)) → is_sitting (at s' line) ≡ true
  put-sitting line stages recorded sheet within put =
      subst (λ (z : List Place). is_sitting (place_of z line.place line.serial) ≡ true) (sym put)
      (ap is_sitting (put-there s.places line.place line.serial stages (sitting recorded sheet) within))

  pub begun : (line : Handle) (recorded : ℕ) → is_resting (at s line) ≡ true → Step 𝓝 s (begins line recorded) done s' → is_sitting (at s' line) ≡ true
  begun line recorded rests step =
      let (e, (is, does)) = went 𝓝 s s' (begins line recorded) done refl step in
      put-sitting line _ _ _ (rests-at s.places line.place line.serial rests).within (ap (λ (z : Shown). z.places) does.after)

  pub still-sitting : (line : Handle) (bytes : List ℕ) (measured : ℕ) (change : Change) → is_sitting (at s line) ≡ true → Step 𝓝 s (enters line bytes measured change) done s' → is_sitting (at s' line) ≡ true
  still-sitting line bytes measured change sits step =
      let (e, (is, does)) = went 𝓝 s s' (enters line bytes measured change) done refl step in
      put-sitting line _ _ _ (sits-at s.places line.place line.serial sits) (ap (λ (z : Shown). z.places) does.after)

  pub committed-rests : (line : Handle) → is_sitting (at s line) ≡ true → Step 𝓝 s (commits line) done s' → is_resting (at s' line) ≡ true
  committed-rests line sits step =
      let (e, (is, does)) = went 𝓝 s s' (commits line) done refl step in
      put-resting line _ (sits-at s.places line.place line.serial sits) (ap (λ (z : Shown). z.places) does.after)

  pub abandoned-rests : (line : Handle) → is_sitting (at s line) ≡ true → Step 𝓝 s (abandons line) done s' → is_resting (at s' line) ≡ true
  abandoned-rests line sits step =
      let (e, (is, does)) = went 𝓝 s s' (abandons line) done refl step in
      put-resting line _ (sits-at s.places line.place line.serial sits) (ap (λ (z : Shown). z.places) does.after)

-- ---- calls that no condition declines

module _ {K : Type 0} (𝓝 : Names K) (s : Shown) (line : Handle) where
  pub stow-goes : (letter : ℕ) → is_resting (at s line) ≡ true → is_letter letter ≡ true → Bare s.places letter → declined 𝓝 s (stows line letter) ≡ None
  stow-goes letter rests is bare =
      let shelf = none-lowest (is_stowed letter) free s.places bare in
      rw (rests, is, shelf)
