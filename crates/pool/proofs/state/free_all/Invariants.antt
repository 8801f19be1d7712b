use Rattle.pool.specs.FreeList.{FreePast}
use Rattle.pool.proofs.state.free_all.Given as goal

abbrev pub invariant-loop-i : goal.invariant-loop-i
invariant-loop-i l = FreePast l.nodes l.first l.i
