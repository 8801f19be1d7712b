use Rattle.std.proofs.Common.{◌≡◌, ℕ, ◌+◌, ◌-◌, set, sym, subst, arith}
use Rattle.pool.specs.declared.node.Node.{Node}
use Rattle.pool.specs.FreeList.{FreePast}
use Rattle.pool.proofs.Freeing.{free_more}
use Rattle.pool.proofs.state.free_all.Goals as goal

pub loop-i-preserved : goal.loop-i-preserved
loop-i-preserved c =
    let i : ℕ = c.loop-i.i in
    let e : i - 1 + 1 ≡ i = omega arith in
    subst (λ (k : ℕ). FreePast (set c.loop-i.nodes (i - 1) c.vacant.result) k (i - 1)) (sym e)
    (subst (λ (x : Node). FreePast (set c.loop-i.nodes (i - 1) x) i (i - 1)) (sym c.vacant.ensures)
    (free_more c.loop-i.nodes c.loop-i.first i (omega arith) c.loop-i.invariant))
