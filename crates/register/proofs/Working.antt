-- The worked examples: the lists and trees by computation, and what stands by the history from the answers of its sheets.
use Rattle.std.proofs.Common.{◌≡◌, ℕ, refl, ap, arith, lit<}
use Rattle.std.proofs.lemmas.Bool.Decides.{nat_tests}
use Rattle.std.specs.List.{AllByRecursion}
use Rattle.kinds.specs.Name.{IsName}
use Rattle.kinds.specs.Packed.{weighed}
use Rattle.kinds.specs.declared.name.Name.{Name}
use Rattle.pool.specs.declared.node.Words.{Words}
use Rattle.tree.specs.Insert.{insert}
use Rattle.tree.specs.Kind.{Kind}
use Rattle.tree.specs.Lookup.{find}
use Rattle.tree.specs.Rebuild.{balance, rotate_double, rotate_left, rotate_right}
use Rattle.tree.specs.Remove.{first, join, remove, without_first}
use Rattle.register.proofs.Asking.{as-of-answer, total-answer}
use Rattle.register.proofs.Ruled.{name-holds}
use Rattle.register.proofs.ThreeNodes.{three-used}
use Rattle.register.proofs.WorkedSteps.{script-steps}
use Rattle.register.specs.Asked.{count_within, last_up_to, sum_within}
use Rattle.register.specs.Contents.{card_of, entered, sheet_of}
use Rattle.register.specs.History.{InTime, IsAsOf, IsTotal, Stage, WellNamed}
use Rattle.register.specs.Trees.{changed_tree, with_card_tree}
use Rattle.register.specs.Worked.{WorkedExamples, card_then, standing}
use Rattle.register.specs.WorkedScript.{forward, gauge, history}

-- names by their bytes are a kind of key
by_bytes : Kind Name
by_bytes =
    record {
      words = forward.words;
      key = forward.key;
      order = forward.order;
      back = λ k. refl;
      equal = λ a b e.
          let high : a.words.high ≡ b.words.high = ap (λ (w : Words). w.high) e in
          let low : a.words.low ≡ b.words.low = ap (λ (w : Words). w.low) e in
          grind (arith, nat_tests);
      same = λ a b e.
          let high : a.words.high ≡ b.words.high = grind (arith, nat_tests) in
          let low : a.words.low ≡ b.words.low = grind (arith, nat_tests) in
          λ i. record { high = high i; low = low i };
      after = λ a b e. grind (arith, nat_tests);
      before = λ a b e. grind (arith, nat_tests);
      chained = λ a b c p q. grind (arith, nat_tests);
    }

in-time : InTime history
in-time = ((lit< tt, tt), (tt, tt))

is_name : IsName gauge
is_name = name-holds gauge refl

well-named : AllByRecursion (λ (s : Stage). WellNamed s.entries) history
well-named = ((is_name, (is_name, tt)), ((is_name, (is_name, tt)), tt))

latest : (recorded measured : ℕ) → IsAsOf (standing recorded) measured (last_up_to measured (card_then recorded))
unfolding by_bytes
latest recorded measured = as-of-answer by_bytes (λ n. n) (λ n. n) (λ n. n) (λ n. refl) recorded history in-time well-named gauge is_name measured

total : (recorded from to : ℕ) → IsTotal (standing recorded) from to (count_within from to (card_then recorded)) (sum_within from to (card_then recorded))
unfolding by_bytes
total recorded from to = total-answer by_bytes (λ n. n) (λ n. n) (λ n. n) (λ n. refl) recorded history in-time well-named gauge is_name from to

pub worked-examples : WorkedExamples
unfolding weighed entered sheet_of card_of changed_tree with_card_tree find insert remove join first without_first balance rotate_left rotate_right rotate_double
worked-examples =
    record {
      script = script-steps;
      before_the_second_stage = (latest 150 70, refl);
      at_the_second_stage = (latest 200 70, refl);
      before_the_first_stage = (latest 99 70, refl);
      both_readings = (total 199 40 60, refl, refl);
      measured_in_time = (refl, (refl, refl));
      longest_name = refl;
      broken_names = ((refl, refl), ((refl, refl), ((refl, refl), tt)));
      enough_nodes = (refl, (refl, refl));
      most_lines = (refl, refl, refl);
      middle_at_the_root = (refl, (refl, (refl, (refl, (refl, (refl, tt))))));
      turned_by_withdrawing = refl;
      three_nodes = λ nodes free used root holds. three-used nodes free used root _ _ _ _ _ _ _ _ _ holds;
    }
