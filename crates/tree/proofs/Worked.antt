-- The worked facts, by computation.
use Rattle.std.proofs.Common.{◌≡◌, ℕ, refl, ap, arith}
use Rattle.std.proofs.lemmas.Bool.Decides.{nat_tests}
use Rattle.tree.specs.Kind.{Kind}
use Rattle.tree.specs.Insert.{insert}
use Rattle.tree.specs.Rebuild.{balance, rotate_double, rotate_left, rotate_right}
use Rattle.tree.specs.Remove.{first, join, remove, without_first}
use Rattle.tree.specs.Worked.{WorkedFacts, number, numerical, stored}

numbers : Kind ℕ
numbers =
    record {
      words = stored;
      key = number;
      order = numerical;
      back = λ k. refl;
      equal = λ a b e. let same : a ≡ b = ap number e in grind (arith, nat_tests);
      same = λ a b e. let same : a ≡ b = grind (arith, nat_tests) in ap stored same;
      after = λ a b e. grind (arith, nat_tests);
      before = λ a b e. grind (arith, nat_tests);
      chained = λ a b c p q. grind (arith, nat_tests);
    }

pub worked-facts : WorkedFacts
unfolding numbers insert remove join first without_first balance rotate_left rotate_right rotate_double
worked-facts =
    record {
      lawful = (numbers, refl, refl, refl);
      rising = refl;
      rising_last_two_turned = refl;
      middle_then_rising = refl;
      middle_then_falling = refl;
      falling_last_two_turned = refl;
      falling = refl;
      removed = refl;
    }
