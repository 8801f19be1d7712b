use Rattle.register.specs.Registers.{IsInSitting, Keeps}
use Rattle.month.proofs.what_if.shift_all.Given as goal

abbrev pub invariant-loop-generator : goal.invariant-loop-generator
invariant-loop-generator l = Keeps IsInSitting l.fn.register l.register
