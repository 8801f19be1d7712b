-- The range of a reading, in microhertz.
use Rattle.std.specs.Prelude.{ℤ, pos, neg_ℤ, ◌≤ℤ◌}

abbrev pub InRange : ℤ → Type 0
InRange z = (neg_ℤ (pos 1000000000000) ≤ℤ z) × (z ≤ℤ pos 1000000000000)
