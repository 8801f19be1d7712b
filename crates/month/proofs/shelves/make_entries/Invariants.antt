use Rattle.register.specs.Registers.{IsInSitting, Keeps}
use Rattle.month.proofs.shelves.make_entries.Given as goal

abbrev pub invariant-loop-entry : goal.invariant-loop-entry
invariant-loop-entry l = Keeps IsInSitting l.fn.register l.register
