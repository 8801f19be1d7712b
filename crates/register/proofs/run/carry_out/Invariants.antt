use Rattle.register.proofs.Performing.{Carried}
use Rattle.register.specs.Contents.{names}
use Rattle.register.proofs.run.carry_out.Given as goal

-- whatever the register showed at first, the calls so far were a run from there
abbrev pub invariant-loop-turn : goal.invariant-loop-turn
invariant-loop-turn g l = Carried {N = g.row.N.Denot} (names g.N.Key.words g.N.Key.key g.N.Ord.cmp g.N.NameOrder.named g.N.NameOrder.name) l.initial.register l.calls l.initial.answers l.turn l.answers l.register
