use Rattle.register.specs.Registers.{IsInSitting, Keeps}
use Rattle.month.proofs.what_if.shift_one.Given as goal

abbrev pub invariant-loop : goal.invariant-loop
invariant-loop l = Keeps IsInSitting l.fn.register l.register
