-- Readings as numbers of microhertz, and which numbers are readings.
use Rattle.std.specs.Prelude.{◌≡◌, ℤ, pos, neg_ℤ, Ok, Err, Result}
use Rattle.std.proofs.Common.{arith}
use Rattle.std.proofs.lemmas.Int.{ints, clamps}
use Rattle.std.specs.Int.{int_max, int_min}
use Rattle.kinds.specs.Range.{InRange}
use Rattle.kinds.specs.declared.reading.OutOfRange.{OutOfRange}
use Rattle.kinds.specs.declared.reading.Reading.{Reading}

-- a number is a reading exactly when it is in range
abbrev pub Checked : ℤ → Result Reading OutOfRange → Type 0
Checked z (Err _) = InRange z → ⊥
Checked z (Ok reading) = InRange z × (reading.microhertz ≡ z)

-- the number in range that is nearest
abbrev pub nearest : ℤ → ℤ
nearest z = int_max (neg_ℤ (pos 1000000000000)) (int_min z (pos 1000000000000))

pub nearest-in-range : (z : ℤ) → InRange (nearest z)
nearest-in-range z = (omega (arith, ints, clamps), omega (arith, ints, clamps))

-- the nearest reading
abbrev pub reading_of : ℤ → Reading
reading_of z = record { microhertz = nearest z; within = nearest-in-range z }
