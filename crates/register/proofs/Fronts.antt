-- A slice of which a call had the front, of so many elements and of most at the most: the front is all of the first most.
use Rattle.std.proofs.Common.{◌≡◌, ℕ, ◌≤◌, min, List, [], length, take, drop, sym, ap, ◌∙◌, inl, inr, arith}
use Rattle.std.proofs.lemmas.List.{drop_all, length-drop, take_all}
use Rattle.std.proofs.lemmas.Bool.{cases_lt}

module _ {A : Type 0} (most size : ℕ) (before after : List A) (fits : size ≡ min (length before) most) (within : size ≤ length after)
    (behind : drop size after ≡ drop size before) where
  -- where the slice is shorter, all of it is the front
  short : length before ≤ most → length after ≤ most
  short few =
      let none : drop size before ≡ [] = drop_all size before (omega (arith, fits)) in
      omega (arith, fits, length-drop size after, ap (λ (xs : List A). length xs) (behind ∙ none))

  pub front-whole : take size after ≡ take most after
  front-whole =
      elim (cases_lt most (length before)) [
        | inl more ↦ (let full : size ≡ most = omega (arith, fits) in ap (λ (n : ℕ). take n after) full)
        | inr few ↦ (
            let none : drop size before ≡ [] = drop_all size before (omega (arith, fits)) in
            take_all size after (omega (arith, length-drop size after, ap (λ (xs : List A). length xs) (behind ∙ none))) ∙ sym (take_all most after (short few)))
      ]

  pub rest-whole : drop most after ≡ drop most before
  rest-whole =
      elim (cases_lt most (length before)) [
        | inl more ↦ (let full : size ≡ most = omega (arith, fits) in ap (λ (n : ℕ). drop n after) (sym full) ∙ behind ∙ ap (λ (n : ℕ). drop n before) full)
        | inr few ↦ drop_all most after (short few) ∙ sym (drop_all most before few)
      ]
