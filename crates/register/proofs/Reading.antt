-- The answers that a card gives, the latest reading and the number and sum of readings, are those that the history asks for.
use Rattle.std.proofs.Common.{◌≡◌, ℕ, ◌<◌, ◌≤◌, Bool, true, false, cond, ◌&&◌, leb, [], ◌∷◌, ℤ, Some, None, Option, sym, refl, ◌∙◌, subst, arith}
use Rattle.std.proofs.lemmas.Bool.{and_from, and_parts, le-leb, leb-false, leb-true}
use Rattle.std.proofs.lemmas.Bool.Decides.{nat_tests}
use Rattle.std.specs.List.{ContainsAt as Has}
use Rattle.std.specs.Ordering.{nat_cmp}
use Rattle.tree.specs.Lookup.{or_else}
use Rattle.register.proofs.Listing.{all_found, all-value, numbers, value-here, value_there}
use Rattle.register.proofs.Modelling.{by_number}
use Rattle.register.proofs.Sifting.{all-kept, ascending-kept, kept-has, last-kept}
use Rattle.register.specs.Asked.{ByInstant, count_within, last_up_to, readings_within, sum_within}
use Rattle.register.specs.Contents.{Card}
use Rattle.register.specs.History.{IsAsOf, IsTotal, Latest}
use Rattle.register.specs.Keyed.{value_at}

-- what a card has at each measured instant
abbrev reading_at : Card → ℕ → Option ℤ
reading_at card i = value_at nat_cmp i card

reading-there : (i : ℕ) (x : ℕ × ℤ) (xs : Card) → (i ≡ x.0 → ⊥) → reading_at (x ∷ xs) i ≡ reading_at xs i
reading-there i x xs other = value_there numbers i x xs (λ e. other (grind (arith, nat_tests)))

-- ---- the latest reading

latest-first : (m : ℕ) (x : ℕ × ℤ) (xs : Card) → x.0 ≤ m → ((i : ℕ) → i ≤ m → reading_at xs i ≡ None) → Latest (reading_at (x ∷ xs)) m x
latest-first m x xs l none =
    record {
      in-time = l;
      there = value-here numbers x.0 x.1 xs;
      last = λ i after upto. reading-there i x xs (λ e. omega arith) ∙ none i upto;
    }

latest-later : (m : ℕ) (x y : ℕ × ℤ) (xs : Card) → x.0 < y.0 → Latest (reading_at xs) m y → Latest (reading_at (x ∷ xs)) m y
latest-later m x y xs l h =
    record {
      in-time = h.in-time;
      there = reading-there y.0 x xs (λ e. omega arith) ∙ h.there;
      last = λ i after upto. reading-there i x xs (λ e. omega arith) ∙ h.last i after upto;
    }

pub latest-on-card : (m : ℕ) (card : Card) → ByInstant card → IsAsOf (reading_at card) m (last_up_to m card)
latest-on-card m [] a = λ i l. refl
latest-on-card m (x ∷ xs) a =
    subst (IsAsOf (reading_at (x ∷ xs)) m) (sym (last-kept (λ (z : ℕ × ℤ). leb z.0 m) x xs))
    (one (leb x.0 m) (last_up_to m xs) refl (latest-on-card m xs a.1))
  where
    behind : (y : ℕ × ℤ) → Latest (reading_at xs) m y → x.0 < y.0
    behind y h = all-value numbers (λ (z : ℕ × ℤ). x.0 < z.0) y.0 y.1 xs a.0 h.there

    one : (b : Bool) (o : Option (ℕ × ℤ)) → leb x.0 m ≡ b → IsAsOf (reading_at xs) m o → IsAsOf (reading_at (x ∷ xs)) m (cond b (or_else o (Some x)) o)
    one true None e h = latest-first m x xs (leb-true x.0 m e) h
    one true (Some y) e h = latest-later m x y xs (behind y h) h
    one false None e h = λ i l. let far = leb-false x.0 m e in reading-there i x xs (λ f. omega arith) ∙ h i l
    one false (Some y) e h = latest-later m x y xs (behind y h) h

-- by what stands at each instant
as-of-same : (f g : ℕ → Option ℤ) → ((i : ℕ) → f i ≡ g i) → (m : ℕ) (o : Option (ℕ × ℤ)) → IsAsOf f m o → IsAsOf g m o
as-of-same f g same m None h = λ i l. sym (same i) ∙ h i l
as-of-same f g same m (Some x) h =
    record { in-time = h.in-time; there = sym (same x.0) ∙ h.there; last = λ i after upto. sym (same i) ∙ h.last i after upto }

module _ (standing : ℕ → Option ℤ) (card : Card) (a : ByInstant card) (same : (i : ℕ) → value_at nat_cmp i card ≡ standing i) where
  pub card-as-of : (m : ℕ) → IsAsOf standing m (last_up_to m card)
  card-as-of m = as-of-same (reading_at card) standing same m (last_up_to m card) (latest-on-card m card a)

  -- ---- the readings within

  abbrev inside : ℕ → ℕ → ℕ × ℤ → Bool
  inside m1 m2 x = leb m1 x.0 && leb x.0 m2

  pub card-total : (m1 m2 : ℕ) → IsTotal standing m1 m2 (count_within m1 m2 card) (sum_within m1 m2 card)
  card-total m1 m2 =
      record {
        readings = readings_within m1 m2 card;
        ascending = ascending-kept _ (inside m1 m2) card a;
        only =
            all-kept (inside m1 m2) _ _
            (λ x t found.
            let ends = and_parts _ _ t in
            record { from = leb-true m1 x.0 ends.0; to = leb-true x.0 m2 ends.1; there = sym (same x.0) ∙ found })
            card (all_found numbers card (by_number card a));
        every = λ x h.
            all-value numbers (λ (y : ℕ × ℤ). inside m1 m2 y ≡ true → Has (readings_within m1 m2 card) y) x.0 x.1 card
            (kept-has (inside m1 m2) card) (same x.0 ∙ h.there) (and_from _ _ (le-leb m1 x.0 h.from) (le-leb x.0 m2 h.to));
        count_is = refl;
        sum_is = refl;
      }
