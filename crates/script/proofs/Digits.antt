-- Numbers as digits: a step of the reading, and the text that a number is written by.
use Rattle.std.proofs.Common.{◌≡◌, ℕ, ◌+◌, ◌-◌, ◌*◌, ◌^◌, ◌<◌, ◌≤◌, true, false, ◌&&◌, leb, List, length, get_or, drop, Some, None, decimal, sym, ap, ◌∙◌, subst, inl, inr, pow-suc, arith, rules}
use native.Mathlib.Nat.{pow-le-pow_right}
use Rattle.std.proofs.lemmas.Fmt.{decimal-digits_value, decimal_digit, decimal_nonempty, digits_decimal, first_decimal, length-decimal-le, digits_value-decimal}
use Rattle.std.proofs.lemmas.List.{at_drop_more}
use Rattle.std.proofs.lemmas.Str.Parse.{IsNumeralModel, numerals_by_fold, digits_value_short, tells_all_ascii_digits}
use Rattle.std.proofs.lemmas.Bool.{and_parts, and_from, or_cases, or_left, or_right, not-true, not_from_false, cond-true, cond-false, eq-eqb, ne_eqb, eqb-true, eqb-false, and_left, and_right, both_ways, le-leb, leb-true, cases_Bool, cases_eq}
use Rattle.std.specs.Char.{is_ascii_digit}
use Rattle.std.specs.Str.{all_ascii_digits}
use Rattle.script.specs.Numerals.{digits_after, digits_of, plain_size, number_of, NumberWritten}

-- the words of this crate for what the library's lemmas speak of
own : IsNumeralModel (λ ds. all_ascii_digits ds ≡ true) (digits_after 0)
own = numerals_by_fold _ tells_all_ascii_digits digits_after (search rules)

-- plain size, by its parts
pub record Plain (text : List ℕ) : Type 0 where
  pub some : 0 < length text
  pub short : length text ≤ 18
  pub lead : get_or text 0 0 ≡ 48 → length text ≡ 1

pub plain-from : (text : List ℕ) → Plain text → plain_size text ≡ true
plain-from text p =
    and_from _ _ (and_from _ _ (le-leb 1 (length text) p.some) (le-leb (length text) 18 p.short))
    (elim (cases_eq (get_or text 0 0) 48) [ inl e ↦ or_left _ _ (eq-eqb (length text) 1 (p.lead e)) | inr ne ↦ or_right _ _ (not_from_false _ (ne_eqb (get_or text 0 0) 48 ne)) ])

pub plain-parts : (text : List ℕ) → plain_size text ≡ true → Plain text
plain-parts text h =
    let parts = and_parts (leb 1 (length text) && leb (length text) 18) _ h in
    let sizes = and_parts (leb 1 (length text)) _ parts.0 in
    record {
      some = leb-true 1 (length text) sizes.0;
      short = leb-true (length text) 18 sizes.1;
      lead = λ e. elim (or_cases _ _ parts.1) [ inl one ↦ eqb-true (length text) 1 one | inr other ↦ absurd (eqb-false (get_or text 0 0) 48 (not-true _ other) e) ];
    }

-- a text of plain size and digits says their number
pub number_is : (text : List ℕ) → plain_size text ≡ true → all_ascii_digits text ≡ true → number_of text ≡ Some (digits_after 0 text)
number_is text p d = cond-true _ (Some (digits_after 0 text)) None (and_from (plain_size text) (all_ascii_digits text) p d)

pub number-parts : (text : List ℕ) (n : ℕ) → number_of text ≡ Some n → Plain text × (all_ascii_digits text ≡ true) × (n ≡ digits_after 0 text)
number-parts text n e =
    elim (cases_Bool (plain_size text && all_ascii_digits text)) [
      | inl yes-it ↦
          let parts = and_parts (plain_size text) (all_ascii_digits text) yes-it in
          let is : Some n ≡ Some (digits_after 0 text) = sym e ∙ cond-true _ (Some (digits_after 0 text)) None yes-it in
          (plain-parts text parts.0, parts.1, cc)
      | inr not-it ↦
          let is : Some n ≡ None = sym e ∙ cond-false _ (Some (digits_after 0 text)) None not-it in
          let z : ◌≡◌ {A = ℕ} 0 1 = cc in absurd (omega arith)
    ]

pub number_written : (text : List ℕ) → NumberWritten text
number_written text = record {
  reads = λ n e.
      let parts = number-parts text n e in
      let p = parts.0 in
      let short : digits_after 0 text < 10 ^ 18 = digits_value_short own text 18 parts.1 p.short in
      let is = parts.2 in
      (sym (ap decimal is ∙ decimal-digits_value own text parts.1 p.some p.lead (omega arith)), omega arith);
  writes = λ n e small.
      let room : n < 2 ^ 64 = omega arith in
      let is : number_of (decimal n) ≡ Some n =
      number_is (decimal n) (plain-from (decimal n) (record {
        some = decimal_nonempty n room;
        short = length-decimal-le 18 n (omega arith) small room;
        lead = λ zero-first. elim (cases_eq n 0) [ inl none ↦ ap (λ m. length (decimal m)) none ∙ ap length (decimal_digit 0 (omega arith)) | inr some ↦ absurd (omega (arith, first_decimal n (omega arith) room)) ];
      })) (digits_decimal own n room) ∙ ap Some (digits_value-decimal own n room) in
      subst (λ t. number_of t ≡ Some n) (sym e) is;
}

pub number-none-digits : (text : List ℕ) → (all_ascii_digits text ≡ true → ⊥) → None ≡ number_of text
number-none-digits text other =
    elim (cases_Bool (all_ascii_digits text)) [
      | inl all ↦ absurd (other all)
      | inr some ↦ sym (cond-false _ (Some (digits_after 0 text)) None (and_right (plain_size text) (all_ascii_digits text) some))
    ]

-- a text of 1 to 18 bytes that begins with another digit than 0 says what its digits write
pub number_digits : (text : List ℕ) → 0 < length text → length text ≤ 18 → 49 ≤ get_or text 0 0 → digits_of text ≡ number_of text
number_digits text some short digit =
    elim (cases_Bool (all_ascii_digits text)) [
      | inl all ↦
          let plain : Plain text = record { some = some; short = short; lead = λ zero-first. absurd (omega arith) } in
          cond-true _ (Some (digits_after 0 text)) None all ∙ sym (number_is text (plain-from text plain) all)
      | inr other ↦ cond-false _ (Some (digits_after 0 text)) None other ∙ number-none-digits text (λ all. both_ways (all_ascii_digits text) other all)
    ]

-- one digit more after i digits
pub digit-more : (value digit i : ℕ) → value < 10 ^ i → digit < 10 → value * 10 + digit < 10 ^ (i + 1)
digit-more value digit i small d =
    let e : 10 ^ (i + 1) ≡ 10 ^ i * 10 = ap (λ k. 10 ^ k) (omega arith) ∙ pow-suc 10 i in
    omega (arith, e)

-- the digits of a text of at most 18 write less than 10^18
pub digit_room : (text : List ℕ) (i value digit : ℕ) → length text ≤ 18 → i < length text → value < 10 ^ i → digit < 10 → value * 10 + digit < 10 ^ 18
digit_room text i value digit short inside small one =
    omega (arith, digit-more value digit i small one, pow-le-pow_right {n = 10} (omega arith) {i = i + 1} {j = 18} (omega arith))

module _ (text : List ℕ) (i : ℕ) (inside : i < length text) (same : all_ascii_digits (drop i text) ≡ all_ascii_digits text) where
  -- what is left begins with the byte at i
  opened : is_ascii_digit (get_or text i 0) && all_ascii_digits (drop (i + 1) text) ≡ all_ascii_digits text
  opened = sym (at_drop_more all_ascii_digits text i 0 inside) ∙ same

  pub stopped : is_ascii_digit (get_or text i 0) ≡ false → all_ascii_digits text ≡ false
  stopped other = sym opened ∙ and_left (is_ascii_digit (get_or text i 0)) (all_ascii_digits (drop (i + 1) text)) other

  pub digits-again : is_ascii_digit (get_or text i 0) ≡ true → all_ascii_digits (drop (i + 1) text) ≡ all_ascii_digits text
  digits-again digit = ap (λ b. b && all_ascii_digits (drop (i + 1) text)) (sym digit) ∙ opened

-- a digit is at most 9
pub digit-small : (byte : ℕ) → is_ascii_digit byte ≡ true → byte - 48 < 10
digit-small byte digit = omega (arith, leb-true byte 57 (and_parts (leb 48 byte) (leb byte 57) digit).1)

pub value-again : (text : List ℕ) (i value : ℕ) → i < length text → digits_after value (drop i text) ≡ digits_after 0 text → digits_after (value * 10 + (get_or text i 0 - 48)) (drop (i + 1) text) ≡ digits_after 0 text
value-again text i value inside same = sym (at_drop_more (digits_after value) text i 0 inside) ∙ same
