-- The lowest place that passes a test, and the number of live lines, one place after another.
use Rattle.std.proofs.Common.{◌≡◌, ℕ, suc, ◌+◌, Bool, cond, List, ◌∷◌, get_or, is_some, Some, None, Option, arith}
use Rattle.std.proofs.lemmas.Grind.{common_steps}
use Rattle.std.proofs.lemmas.List.Quantifiers.{position-Some}
use Rattle.std.proofs.lemmas.List.Sums.{sum_by-cons}
use Rattle.std.specs.Option.{option_map}
use Rattle.register.specs.Tables.{in_state, lowest, live}
use Rattle.register.specs.declared.table.Record.{Record}
use Rattle.register.specs.declared.table.State.{State}

pub lowest-cons : {A : Type 0} (test : A → Bool) (x : A) (xs : List A) → lowest test (x ∷ xs) ≡ cond (test x) (Some 0) (option_map suc (lowest test xs))
lowest-cons test x xs = grind (arith, common_steps)

pub live-cons : (x : Option Record) (xs : List (Option Record)) → live (x ∷ xs) ≡ cond (is_some x) 1 0 + live xs
live-cons x xs = sum_by-cons _ x xs

-- the lowest place in a state is not free
pub lowest-taken : (state : State) (xs : List (Option Record)) (place : ℕ) → lowest (in_state state) xs ≡ Some place → get_or xs place None ≡ None → ⊥
lowest-taken state xs place found free = grind (arith, common_steps, position-Some)
