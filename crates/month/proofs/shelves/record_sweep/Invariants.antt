use Rattle.register.specs.Registers.{IsInSitting, Keeps}
use Rattle.month.proofs.shelves.record_sweep.Given as goal

abbrev pub invariant-loop-reading : goal.invariant-loop-reading
invariant-loop-reading l = Keeps IsInSitting l.fn.register l.register
