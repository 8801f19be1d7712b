-- What C is told of a run: the report's length, and why the run was refused.
use Rattle.std.specs.Prelude.{◌≡◌, ℕ, List, Ok, Err, Result}
use Rattle.pool.specs.declared.node.Node.{Node}
use Rattle.register.specs.Refusals.{number_of}
use Rattle.script.specs.Scripts.{TooLong}
use Rattle.script.specs.Whole.{RanScript}
use Rattle.script.specs.declared.runner.Stopped.{Stopped}
use Rattle.tinglacier.specs.declared.outcome.Outcome.{Outcome}

-- the report's length, and the number of the refusal, or 0
abbrev pub outcome_of : Result ℕ Stopped → Outcome
outcome_of (Ok size) = record { length = size; refusal = 0 }
outcome_of (Err stopped) = record { length = stopped.length; refusal = number_of stopped.why }

-- A script that is too long is not run.
abbrev pub NotRun : Outcome → List ℕ → List ℕ → Type 0
NotRun outcome before after = (ended : Result ℕ Stopped) × TooLong ended before after × (outcome ≡ outcome_of ended)

-- Any other script runs in a register made with so many nodes and this first serial. Its report is written, and all of the nodes are free afterwards.
abbrev pub Ran : (nodes first : ℕ) → List ℕ → Outcome → List ℕ → List ℕ → List Node → Type 0
Ran nodes first text outcome before after memory = (ended : Result ℕ Stopped) × RanScript nodes first text ended before after memory × (outcome ≡ outcome_of ended)
