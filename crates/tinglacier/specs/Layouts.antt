-- How what crosses to C lies in memory, in bytes. The header has the same numbers.
use Rattle.std.specs.Prelude.{◌≡◌}
use Rattle.pool.specs.contracts.node.Node.{the_row as node_row}
use Rattle.tinglacier.specs.contracts.outcome.Outcome.{the_row as outcome_row}
use denote.Memory.{lone}
use denote.RattleType.{RattleType}
use mathlib.Core.Option.{some}
use mir.Syntax.{Ty, ty_int, w8, w64}
use prog.Memory.{align, field_of, size}

-- the type as memory has it
abbrev pub in_memory : RattleType → Ty
in_memory row = lone row.mir

-- The length lies at the front, and the refusal behind it.
pub record OutcomeLayout : Type 0 where
  pub bytes : size (in_memory outcome_row) ≡ 16
  pub aligned : align (in_memory outcome_row) ≡ 8
  pub length : field_of (in_memory outcome_row) 0 ≡ some (ty_int w64, 0)
  pub refusal : field_of (in_memory outcome_row) 1 ≡ some (ty_int w8, 8)

-- C sees a node as five words.
pub record NodeLayout : Type 0 where
  pub bytes : size (in_memory node_row) ≡ 40
  pub aligned : align (in_memory node_row) ≡ 8
