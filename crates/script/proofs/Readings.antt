-- Readings: a number, or a minus sign and a magnitude, and the text that a reading is written by.
use Rattle.std.proofs.Common.{◌-◌, length, get_or, take, drop, ◌≡◌, Bool, false, true, ℕ, zero, suc, ◌^◌, ◌<◌, eqb, List, [], ◌∷◌, ℤ, pos, negsuc, neg_ℤ, nat_abs, Some, None, decimal, Option, sym, refl, ap, ◌∙◌, subst, inl, inr, arith}
use Rattle.std.proofs.lemmas.List.{take_rest}
use Rattle.std.proofs.lemmas.Bool.{cond-true, cond-false, eqb-true, eq-eqb, ne_eqb, cases_Bool, cases_eq}
use Rattle.std.specs.Option.{option_map, option_or}
use Rattle.std.specs.Fmt.{signed_decimal}
use Rattle.script.specs.Numerals.{number_of, after_minus, nonzero, magnitude_of, reading_of, ReadingWritten}
use Rattle.script.proofs.Digits.{number_written, number-none-digits}

pub number_small : (text : List ℕ) (n : ℕ) → number_of text ≡ Some n → n < 10 ^ 18
number_small text n e = ((number_written text).reads n e).1

pub reading-number : (text : List ℕ) (n : ℕ) → number_of text ≡ Some n → reading_of text ≡ Some (pos n)
reading-number text n e = ap (λ o. option_or (option_map pos o) (option_map (λ m. neg_ℤ (pos m)) (magnitude_of text))) e

pub reading-negative : (text : List ℕ) (m : ℕ) → number_of text ≡ None → magnitude_of text ≡ Some m → reading_of text ≡ Some (neg_ℤ (pos m))
reading-negative text m none e = ap (λ o. option_or (option_map pos o) (option_map (λ m. neg_ℤ (pos m)) (magnitude_of text))) none ∙ ap (option_map (λ m. neg_ℤ (pos m))) e

pub reading-none : (text : List ℕ) → number_of text ≡ None → magnitude_of text ≡ None → reading_of text ≡ None
reading-none text none no_sign = ap (λ o. option_or (option_map pos o) (option_map (λ m. neg_ℤ (pos m)) (magnitude_of text))) none ∙ ap (option_map (λ m. neg_ℤ (pos m))) no_sign

-- a number that is there and not 0
nonzero-some : (n : ℕ) → 0 < n → nonzero (Some n) ≡ Some n
nonzero-some n some = cond-false (eqb n 0) None (Some n) (ne_eqb n 0 (λ none. omega arith))

nonzero-parts : (o : Option ℕ) (m : ℕ) → nonzero o ≡ Some m → (o ≡ Some m) × (0 < m)
nonzero-parts None m e = let z : ◌≡◌ {A = ℕ} 0 1 = cc in absurd (omega arith)
nonzero-parts (Some n) m e =
    elim (cases_eq n 0) [
      | inl none ↦
          let same : None ≡ Some m = sym (cond-true (eqb n 0) None (Some n) (eq-eqb n 0 none)) ∙ e in
          let z : ◌≡◌ {A = ℕ} 0 1 = cc in absurd (omega arith)
      | inr some ↦
          let same : Some n ≡ Some m = sym (nonzero-some n (omega arith)) ∙ e in
          let is : n ≡ m = cc in (same, omega arith)
    ]

-- the number after a minus sign, where the first byte is one
pub after_minus_lem : (text : List ℕ) → 0 < length text → get_or text 0 0 ≡ 45 → number_of (take (length text - 1) (drop 1 text)) ≡ after_minus text
after_minus_lem [] some sign = absurd (omega arith)
after_minus_lem (first ∷ rest) some sign =
    ap number_of (take_rest (first ∷ rest) 1) ∙ sym (cond-true (eqb first 45) (number_of rest) None (eq-eqb first 45 sign))

-- a magnitude comes after a minus sign
pub magnitude-parts : (text : List ℕ) (m : ℕ) → magnitude_of text ≡ Some m → (rest : List ℕ) × (text ≡ 45 ∷ rest) × (number_of rest ≡ Some m) × (0 < m)
magnitude-parts [] m e = let z : ◌≡◌ {A = ℕ} 0 1 = cc in absurd (omega arith)
magnitude-parts (first ∷ rest) m e =
    let parts = nonzero-parts (after_minus (first ∷ rest)) m e in
    elim (cases_Bool (eqb first 45)) [
      | inl is ↦ (rest, ap (λ b. b ∷ rest) (eqb-true first 45 is), sym (cond-true (eqb first 45) (number_of rest) None is) ∙ parts.0, parts.1)
      | inr isnt ↦
          let none : None ≡ Some m = sym (cond-false (eqb first 45) (number_of rest) None isnt) ∙ parts.0 in
          let z : ◌≡◌ {A = ℕ} 0 1 = cc in absurd (omega arith)
    ]

pub magnitude_small : (text : List ℕ) (m : ℕ) → magnitude_of text ≡ Some m → m < 10 ^ 18
magnitude_small text m e = let parts = magnitude-parts text m e in number_small parts.0 m parts.2

-- no number begins with a minus sign
pub signed-no-number : (rest : List ℕ) → number_of (45 ∷ rest) ≡ None
signed-no-number rest = sym (number-none-digits (45 ∷ rest) (λ all. let z : ◌≡◌ {A = Bool} false true = all in cc))

read-written : (text : List ℕ) (z : ℤ) (o p : Option ℕ) → number_of text ≡ o → magnitude_of text ≡ p → reading_of text ≡ Some z → (text ≡ signed_decimal z) × (nat_abs z < 10 ^ 18)
read-written text z (Some n) p is signs e =
    let same : Some (pos n) ≡ Some z = sym (reading-number text n is) ∙ e in
    let z-is : pos n ≡ z = cc in
    subst (λ z. (text ≡ signed_decimal z) × (nat_abs z < 10 ^ 18)) z-is ((number_written text).reads n is)
read-written text z None (Some zero) is signs e = absurd (omega (arith, (magnitude-parts text 0 signs).3))
read-written text z None (Some (suc m)) is signs e =
    let parts = magnitude-parts text (suc m) signs in
    let same : Some (negsuc m) ≡ Some z = sym (reading-negative text (suc m) is signs) ∙ e in
    let z-is : negsuc m ≡ z = cc in
    let written = (number_written parts.0).reads (suc m) parts.2 in
    subst (λ z. (text ≡ signed_decimal z) × (nat_abs z < 10 ^ 18)) z-is (parts.1 ∙ ap (λ rest. 45 ∷ rest) written.0, written.1)
read-written text z None None is signs e =
    let none : None ≡ Some z = sym (reading-none text is signs) ∙ e in
    let no : ◌≡◌ {A = ℕ} 0 1 = cc in absurd (omega arith)

written_read : (text : List ℕ) (z : ℤ) → text ≡ signed_decimal z → nat_abs z < 10 ^ 18 → reading_of text ≡ Some z
written_read text (pos n) is small = reading-number text n ((number_written text).writes n is small)
written_read text (negsuc n) is small =
    ap reading_of is ∙ reading-negative (45 ∷ decimal (suc n)) (suc n) (signed-no-number (decimal (suc n))) (ap nonzero ((number_written (decimal (suc n))).writes (suc n) refl small) ∙ nonzero-some (suc n) (omega arith))

pub reading_written : (text : List ℕ) → ReadingWritten text
reading_written text =
    record { reads = λ z. read-written text z (number_of text) (magnitude_of text) refl refl; writes = written_read text }

-- what is known of the number and of the magnitude that a text says, and of its reading
pub ruleset readings = (number_small, magnitude_small, reading_written)
