-- Which number is that of a refusal.
use Rattle.std.specs.Prelude.{◌≡◌, ◌≢◌, ℕ}
use Rattle.register.specs.Refusals.{number_of}
use Rattle.register.specs.declared.refusal.Refusal.{Refusal}

abbrev pub HasNumber : ℕ → Refusal → Type 0
HasNumber number why = number_of why ≡ number

-- no refusal has the number
abbrev pub OfNone : ℕ → Type 0
OfNone number = (why : Refusal) → number_of why ≢ number
