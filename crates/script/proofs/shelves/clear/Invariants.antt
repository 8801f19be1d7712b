use Rattle.std.proofs.Common.{◌-◌, None}
use Rattle.register.specs.Registers.{SameLoan}
use Rattle.script.specs.Runs.{Cleared}
use Rattle.script.specs.Standings.{Leads, Ready}
use Rattle.script.proofs.shelves.clear.Given as goal

-- the shelves before this one are cleared
abbrev pub invariant-loop-shelf : goal.invariant-loop-shelf
invariant-loop-shelf l = record {
  ready : Ready l.register None;
  way : Leads l.initial.register None l.register None (λ s s'. Cleared (l.shelf - 65) s.now s'.now);
  loan : SameLoan l.initial.register l.register;
}
