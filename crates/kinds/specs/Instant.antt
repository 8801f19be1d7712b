-- Instants as numbers of seconds, from 0 to 4294967295.
use Rattle.std.specs.Prelude.{ℕ, ◌%◌, ◌<◌}
use Rattle.std.proofs.Common.{arith}
use Rattle.kinds.specs.declared.instant.Instant.{Instant}

pub seconds-below : (n : ℕ) → n % 4294967296 < 4294967296
seconds-below n = omega arith

-- the instant of a number of seconds, which starts again at 0 past the limit
abbrev pub instant_of : ℕ → Instant
instant_of seconds = record { seconds = seconds % 4294967296; fits = seconds-below seconds }
