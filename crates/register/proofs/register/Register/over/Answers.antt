use Rattle.std.proofs.Common.{refl, arith}
use Rattle.pool.proofs.Pools.{holds_at}
use Rattle.register.proofs.Making.{kept_new}
use Rattle.register.proofs.register.Register.over.Goals as goal
use Rattle.register.specs.Kept.{pool_in}

pub invariant_of-result : goal.invariant_of-result
invariant_of-result g c =
    let p = pool_in c.args.nodes c.args.size c.args.state in
    record {
      small = c.requires.small;
      within = c.requires.within;
      counted = omega (arith, c.requires.unused);
      kept = ∣ (_, kept_new p c.new.result.lines c.new.ensures (holds_at p _ _ _ _ refl refl refl c.requires.free)) ∣₁;
    }
