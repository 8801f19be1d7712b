-- The lowest place that passes a test, in the table's records and in the places that are shown.
use Rattle.std.proofs.Common.{◌≡◌, ℕ, ◌+◌, ◌<◌, Bool, true, false, cond, not, ltb, List, [], ◌∷◌, map, length, get_or, is_none, is_some, Some, None, Ok, Err, Option, Result, sym, refl, ap, ◌∙◌, arith, ltb-false, eqb-true}
use Rattle.std.proofs.lemmas.List.Quantifiers.{position-Some}
use Rattle.pool.specs.Held.{Held}
use Rattle.register.proofs.Tables.{live-cons, lowest-cons}
use Rattle.register.specs.Places.{Place, free, is_free, is_stowed, live, live_in, record_of, resting, sitting, stowed}
use Rattle.register.specs.Refusals.{first_of}
use Rattle.register.specs.Tables.{in_state, live as live_records, lowest, place_or, vacancy_in}
use Rattle.register.specs.declared.refusal.Refusal.{Refusal}
use Rattle.register.specs.declared.refusal.Refusal.TheVariants.{LinesExhausted, SerialsExhausted}
use Rattle.register.specs.declared.table.Record.{Record}
use Rattle.register.specs.declared.table.State.TheVariants.{Stowed}

pub differ : {A : Type 0} → ◌≡◌ {A = ℕ} 0 1 → A
differ e = absurd (omega (arith, e))

-- ---- tests of records are tests of places

pub lowest-rows : (listed : Option Record → Bool) (test : Place → Bool) → ((x : Place) → listed (record_of x) ≡ test x) → (xs : List Place)
    → lowest listed (map record_of xs) ≡ lowest test xs
lowest-rows listed test same [] = refl
lowest-rows listed test same (x ∷ xs) =
    let rest = lowest-rows listed test same xs in
    lowest-cons listed (record_of x) (map record_of xs) ∙ rw (same x, rest) (sym (lowest-cons test x xs))

free-state : (x : Place) → is_none (record_of x) ≡ is_free x
free-state free = refl
free-state (live n h d) = refl

shelf-state : (letter : ℕ) (x : Place) → in_state (Stowed letter) (record_of x) ≡ is_stowed letter x
shelf-state letter free = refl
shelf-state letter (live n h resting) = refl
shelf-state letter (live n h (sitting r g)) = refl
shelf-state letter (live n h (stowed b)) = refl

pub lowest-free : (ls : List (Option Record)) (xs : List Place) → ls ≡ map record_of xs → lowest is_none ls ≡ lowest is_free xs
lowest-free ls xs rows = ap (lowest is_none) rows ∙ lowest-rows is_none is_free free-state xs

pub lowest-stowed : (letter : ℕ) (ls : List (Option Record)) (xs : List Place) → ls ≡ map record_of xs → lowest (in_state (Stowed letter)) ls ≡ lowest (is_stowed letter) xs
lowest-stowed letter ls xs rows = ap (lowest (in_state (Stowed letter))) rows ∙ lowest-rows (in_state (Stowed letter)) (is_stowed letter) (shelf-state letter) xs

pub live-rows : (xs : List Place) → live_records (map record_of xs) ≡ live_in xs
live-rows [] = refl
live-rows (x ∷ xs) = live-cons (record_of x) (map record_of xs) ∙ lives x (live-rows xs)
  where
    lives : (x : Place) → live_records (map record_of xs) ≡ live_in xs → cond (is_some (record_of x)) 1 0 + live_records (map record_of xs) ≡ cond (is_free x) 0 1 + live_in xs
    lives free e = omega (arith, e)
    lives (live n h d) e = omega (arith, e)

-- ---- what is found passes the test

pub lowest-found : {A : Type 0} (test : A → Bool) (d : A) (xs : List A) (i : ℕ) → lowest test xs ≡ Some i → (i < length xs) × (test (get_or xs i d) ≡ true)
lowest-found test d xs i e = let (within, here, before) = position-Some test xs i d e in (within, here)

pub is_free_lem : (x : Place) → is_free x ≡ true → x ≡ free
is_free_lem free e = refl
is_free_lem (live n h d) e = differ (cc)

pub is-stowed : (letter : ℕ) (x : Place) → is_stowed letter x ≡ true → (n : ℕ) × (h : Held) × (x ≡ live n h (stowed letter))
is-stowed letter free e = differ (cc)
is-stowed letter (live n h resting) e = differ (cc)
is-stowed letter (live n h (sitting r g)) e = differ (cc)
is-stowed letter (live n h (stowed b)) e = (n, h, ap (λ (m : ℕ). live n h (stowed m)) (eqb-true b letter e))

-- ---- a place for a further line

abbrev pub refusal_in : {A : Type 0} → Result A Refusal → Option Refusal
refusal_in (Ok a) = None
refusal_in (Err why) = Some why

vacancy-rows : (next : ℕ) (o : Option ℕ)
    → first_of ((not (is_some o), LinesExhausted) ∷ (ltb 4294967294 next, SerialsExhausted) ∷ []) ≡ refusal_in (place_or next o)
vacancy-rows next None = refl
vacancy-rows next (Some i) =
    elim (ltb 4294967294 next) as (λ b. cond b (Some SerialsExhausted) None ≡ refusal_in (cond b (Err SerialsExhausted) (Ok i))) [ true ↦ refl | false ↦ refl ]

-- the refusals of a further line are those of the search for its place
pub vacancy-declined : (ls : List (Option Record)) (xs : List Place) (next : ℕ) → ls ≡ map record_of xs
    → first_of ((not (is_some (lowest is_free xs)), LinesExhausted) ∷ (ltb 4294967294 next, SerialsExhausted) ∷ []) ≡ refusal_in (vacancy_in ls next)
vacancy-declined ls xs next rows = vacancy-rows next (lowest is_free xs) ∙ ap (λ (o : Option ℕ). refusal_in (place_or next o)) (sym (lowest-free ls xs rows))

pub record Vacancy (xs : List Place) (next place : ℕ) : Type 0 where
  pub lowest-is : lowest is_free xs ≡ Some place
  pub here : get_or xs place free ≡ free
  pub within : place < length xs
  pub serial : next < 4294967295

pub place-given : (next place : ℕ) (o : Option ℕ) → Ok place ≡ place_or next o → (o ≡ Some place) × (next < 4294967295)
place-given next place None e = differ (cc)
place-given next place (Some i) e =
    elim (ltb 4294967294 next) as (λ b. ltb 4294967294 next ≡ b → ◌≡◌ {A = Result ℕ Refusal} (Ok place) (cond b (Err SerialsExhausted) (Ok i)) → (Some i ≡ Some place) × (next < 4294967295)) [
      | true ↦ (λ t e. differ (cc))
      | false ↦ (λ t e. (cc, omega (arith, ltb-false)))
    ] refl e

pub vacancy : (ls : List (Option Record)) (xs : List Place) (next place : ℕ) → ls ≡ map record_of xs → Ok place ≡ vacancy_in ls next → Vacancy xs next place
vacancy ls xs next place rows e =
    let (o, n) = place-given next place (lowest is_none ls) e in
    let l = sym (lowest-free ls xs rows) ∙ o in
    let f = lowest-found is_free free xs place l in
    record { lowest-is = l; here = is_free_lem (get_or xs place free) f.1; within = f.0; serial = n }
