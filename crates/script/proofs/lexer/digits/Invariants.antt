use Rattle.std.proofs.Common.{◌≡◌, ◌^◌, ◌<◌, drop}
use Rattle.std.specs.Str.{all_ascii_digits}
use Rattle.script.proofs.lexer.digits.Given as goal
use Rattle.script.specs.Numerals.{digits_after}

abbrev pub invariant-loop-digit : goal.invariant-loop-digit
invariant-loop-digit l =
    (l.value < 10 ^ l.digit-index)
    × (all_ascii_digits (drop l.digit-index l.text) ≡ all_ascii_digits l.text)
    × (digits_after l.value (drop l.digit-index l.text) ≡ digits_after 0 l.text)
