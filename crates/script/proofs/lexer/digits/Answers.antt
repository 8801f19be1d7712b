use Rattle.std.proofs.Common.{◌≡◌, ℕ, ◌+◌, ◌-◌, ◌*◌, ◌<◌, get_or, drop, Some, None, sym, ap, ◌∙◌, subst, arith}
use Rattle.std.proofs.lemmas.Bool.{cond-true, cond-false}
use Rattle.std.proofs.lemmas.List.{at_drop_all}
use Rattle.std.specs.Str.{all_ascii_digits}
use Rattle.script.specs.Numerals.{digits_after}
use Rattle.script.proofs.Digits.{digit-more, digit-small, digit_room, digits-again, value-again, stopped}
use Rattle.script.proofs.lexer.digits.Goals as goal

pub returns-then-not-is_ascii_digit : goal.returns-then-not-is_ascii_digit
returns-then-not-is_ascii_digit c =
    let text = c.args.text.now in
    sym (cond-false _ (Some (digits_after 0 text)) None (stopped text c.loop-digit.digit-index c.loop-digit-test.true c.loop-digit.invariant.1 (sym c.if-not-is_ascii_digit.ensures.value)))

pub overflow_mul-value : goal.overflow_mul-value
overflow_mul-value c =
    omega (arith, digit_room c.args.text.now c.loop-digit.digit-index c.loop-digit.value 0 c.requires c.loop-digit-test.true c.loop-digit.invariant.0 (omega arith))

pub overflow_add-value : goal.overflow_add-value
overflow_add-value c =
    let byte = get_or c.args.text.now c.loop-digit.digit-index 0 in
    let digit = sym c.if-not-is_ascii_digit.ensures.value in
    omega (arith, digit_room c.args.text.now c.loop-digit.digit-index c.loop-digit.value (byte - 48) c.requires c.loop-digit-test.true c.loop-digit.invariant.0 (digit-small byte digit))

pub loop-digit-preserved : goal.loop-digit-preserved
loop-digit-preserved c =
    let text = c.args.text.now in
    let i = c.loop-digit.digit-index in
    let digit = sym c.if-not-is_ascii_digit.ensures.value in
    let is : c.from.result ≡ get_or text i 0 - 48 = c.from.ensures in (
      digit-more c.loop-digit.value c.from.result i c.loop-digit.invariant.0 (subst (λ (d : ℕ). d < 10) (sym is) (digit-small (get_or text i 0) digit)),
      digits-again text i c.loop-digit-test.true c.loop-digit.invariant.1 digit,
      subst (λ (d : ℕ). digits_after (c.loop-digit.value * 10 + d) (drop (i + 1) text) ≡ digits_after 0 text) (sym is) (value-again text i c.loop-digit.value c.loop-digit-test.true c.loop-digit.invariant.2),
    )

pub returns : goal.returns
returns c =
    let text = c.args.text.now in
    let i = c.loop-digit.digit-index in
    let all = sym c.loop-digit.invariant.1 ∙ at_drop_all all_ascii_digits text i c.loop-digit-test.false in
    ap Some (sym (at_drop_all (digits_after c.loop-digit.value) text i c.loop-digit-test.false) ∙ c.loop-digit.invariant.2) ∙ sym (cond-true _ (Some (digits_after 0 text)) None all)
