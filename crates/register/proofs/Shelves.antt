-- At most one line lies on each shelf, whatever the calls; and what a call leaves of the places.
use Rattle.std.proofs.Common.{◌≡◌, ℕ, zero, suc, ◌<◌, Bool, true, false, cond, ◌⊎◌, List, [], ◌∷◌, length, get_or, set, replicate, is_some, Some, None, Option, sym, refl, ap, ◌∙◌, subst, inl, inr, arith, get_or-set_other, get_or-set_same, eqb-true}
use Rattle.std.proofs.lemmas.Bool.{cases_eq}
use Rattle.std.specs.Option.{option_map}
use Rattle.pool.specs.Held.{Held}
use Rattle.register.proofs.Changing.{at-live, place-of, within_of}
use Rattle.register.proofs.Tables.{lowest-cons}
use Rattle.register.specs.Places.{Doing, Place, free, is_resting, is_sitting, is_stowed, live, place_of, resting, sitting, stowed}
use Rattle.register.specs.Shelves.{Bare, Single}
use Rattle.register.specs.Tables.{lowest}

differ : {A : Type 0} → ◌≡◌ {A = ℕ} 0 1 → A
differ e = absurd (omega (arith, e))

both : {A : Type 0} (b : Bool) → b ≡ true → b ≡ false → A
both b t f = differ (let e : true ≡ false = sym t ∙ f in cc)

-- ---- the lowest place and all places

cond-none : (b : Bool) (o : Option ℕ) → cond b (Some 0) (option_map suc o) ≡ None → (b ≡ false) × (o ≡ None)
cond-none true o e = differ (cc)
cond-none false None e = (refl, refl)
cond-none false (Some k) e = differ (cc)

-- where the search finds nothing, nothing passes the test
pub lowest-none : {A : Type 0} (test : A → Bool) (d : A) → test d ≡ false → (xs : List A) → lowest test xs ≡ None → (i : ℕ) → test (get_or xs i d) ≡ false
lowest-none test d t [] e i = t
lowest-none test d t (x ∷ xs) e zero = (cond-none (test x) (lowest test xs) (sym (lowest-cons test x xs) ∙ e)).0
lowest-none test d t (x ∷ xs) e (suc i) = lowest-none test d t xs (cond-none (test x) (lowest test xs) (sym (lowest-cons test x xs) ∙ e)).1 i

-- and the other way
pub none-lowest : {A : Type 0} (test : A → Bool) (d : A) (xs : List A) → ((i : ℕ) → test (get_or xs i d) ≡ false) → lowest test xs ≡ None
none-lowest test d [] none = refl
none-lowest test d (x ∷ xs) none =
    let here : test x ≡ false = none 0 in
    let rest : lowest test xs ≡ None = none-lowest test d xs (λ i. none (suc i)) in
    lowest-cons test x xs ∙ rw (here, rest)

pub not_some : {A : Type 0} (o : Option A) → is_some o ≡ false → o ≡ None
not_some None e = refl
not_some (Some a) e = differ (cc)

-- ---- one place changes

set-either : (xs : List Place) (i j : ℕ) (y : Place) → (get_or (set xs i y) j free ≡ y) ⊎ (get_or (set xs i y) j free ≡ get_or xs j free)
set-either [] i j y = inr refl
set-either (x ∷ xs) zero zero y = inl refl
set-either (x ∷ xs) zero (suc j) y = inr refl
set-either (x ∷ xs) (suc i) zero y = inr refl
set-either (x ∷ xs) (suc i) (suc j) y = set-either xs i j y

-- no line lies on a shelf there
abbrev pub Unstowed : Place → Type 0
Unstowed y = (letter : ℕ) → is_stowed letter y ≡ false

module _ (xs : List Place) (i : ℕ) (y : Place) where
  -- what is stowed after the change was stowed before it
  stowed-before : (letter j : ℕ) → is_stowed letter y ≡ false → is_stowed letter (get_or (set xs i y) j free) ≡ true → is_stowed letter (get_or xs j free) ≡ true
  stowed-before letter j off on =
      elim (set-either xs i j y) [
        | inl e ↦ both (is_stowed letter y) (sym (ap (is_stowed letter) e) ∙ on) off
        | inr e ↦ sym (ap (is_stowed letter) e) ∙ on
      ]

  pub bare_set : (letter : ℕ) → is_stowed letter y ≡ false → Bare xs letter → Bare (set xs i y) letter
  bare_set letter off bare j =
      elim (set-either xs i j y) [
        | inl e ↦ ap (is_stowed letter) e ∙ off
        | inr e ↦ ap (is_stowed letter) e ∙ bare j
      ]

  pub single-set : Unstowed y → Single xs → Single (set xs i y)
  single-set off single letter j k p q = single letter j k (stowed-before letter j (off letter) p) (stowed-before letter k (off letter) q)

-- a line laid on a bare shelf
module _ (xs : List Place) (i serial letter : ℕ) (stages : Held) (bare : Bare xs letter) (single : Single xs) where
  abbrev y : Place
  y = live serial stages (stowed letter)

  -- at another place nothing lies on that shelf
  alone : (other j k : ℕ) → j ≡ i → (k ≡ i → ⊥) → is_stowed other (get_or (set xs i y) j free) ≡ true → is_stowed other (get_or (set xs i y) k free) ≡ true → j ≡ k
  alone other j k e apart p q =
      let stays : is_stowed other (get_or xs k free) ≡ true = sym (ap (is_stowed other) (get_or-set_other xs i k y free apart)) ∙ q in
      elim (set-either xs i j y) [
        | inl f ↦ (
            let same : letter ≡ other = eqb-true letter other (sym (ap (is_stowed other) f) ∙ p) in
            both (is_stowed letter (get_or xs k free)) (subst (λ (m : ℕ). is_stowed m (get_or xs k free) ≡ true) (sym same) stays) (bare k))
        | inr f ↦ single other j k (sym (ap (is_stowed other) f) ∙ p) stays
      ]

  pub single-stowed : Single (set xs i y)
  single-stowed other j k p q =
      elim (cases_eq j i) [
        | inl e ↦ elim (cases_eq k i) [
          | inl f ↦ e ∙ sym f
          | inr apart ↦ alone other j k e apart p q
        ]
        | inr off ↦ elim (cases_eq k i) [
          | inl f ↦ sym (alone other k j f off q p)
          | inr apart ↦
              single other j k
              (sym (ap (is_stowed other) (get_or-set_other xs i j y free off)) ∙ p)
              (sym (ap (is_stowed other) (get_or-set_other xs i k y free apart)) ∙ q)
        ]
      ]

-- free places have no line on a shelf
pub single-free : (n : ℕ) → Single (replicate n free)
single-free n letter i j p q = both (is_stowed letter (get_or (replicate n free) i free)) p (go n i)
  where
    go : (n i : ℕ) → is_stowed letter (get_or (replicate n free) i free) ≡ false
    go zero i = refl
    go (suc n) zero = refl
    go (suc n) (suc i) = go n i

-- ---- the place of a handle

-- a handle that stands for a line: its place in the table
pub record Lives (xs : List Place) (place serial : ℕ) (doing : Doing) : Type 0 where
  pub stages : Held
  pub here : get_or xs place free ≡ live serial stages doing
  pub within : place < length xs

pub rests-at : (xs : List Place) (place serial : ℕ) → is_resting (place_of xs place serial) ≡ true → Lives xs place serial resting
rests-at xs place serial t = go (place_of xs place serial) refl t
  where
    go : (x : Place) → place_of xs place serial ≡ x → is_resting x ≡ true → Lives xs place serial resting
    go free e t = differ (cc)
    go (live n h (sitting r g)) e t = differ (cc)
    go (live n h (stowed b)) e t = differ (cc)
    go (live n h resting) e t =
        let here = at-live xs place serial n h resting e in
        record { stages = h; here = here; within = within_of xs place serial h resting here }

pub sits-at : (xs : List Place) (place serial : ℕ) → is_sitting (place_of xs place serial) ≡ true → place < length xs
sits-at xs place serial t = go (place_of xs place serial) refl t
  where
    go : (x : Place) → place_of xs place serial ≡ x → is_sitting x ≡ true → place < length xs
    go free e t = differ (cc)
    go (live n h resting) e t = differ (cc)
    go (live n h (stowed b)) e t = differ (cc)
    go (live n h (sitting r g)) e t = within_of xs place serial h (sitting r g) (at-live xs place serial n h (sitting r g) e)

-- the line that was put there
pub put-there : (xs : List Place) (place serial : ℕ) (stages : Held) (doing : Doing) → place < length xs
    → place_of (set xs place (live serial stages doing)) place serial ≡ live serial stages doing
put-there xs place serial stages doing within =
    place-of (set xs place (live serial stages doing)) place serial stages doing (get_or-set_same xs place (live serial stages doing) free within)

-- another line stays
pub others-stay : (xs : List Place) (i place serial : ℕ) (y : Place) → (place ≡ i → ⊥) → place_of (set xs i y) place serial ≡ place_of xs place serial
others-stay xs i place serial y apart = rw (get_or-set_other xs i place y free apart)
