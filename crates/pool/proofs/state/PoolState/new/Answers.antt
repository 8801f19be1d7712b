use Rattle.std.proofs.Common.{refl, arith}
use Rattle.pool.proofs.Freeing.{free_all}
use Rattle.pool.proofs.state.PoolState.new.Goals as goal

pub returns : goal.returns
returns c =
    record {
      used = refl;
      free = free_all _ _ (omega (arith, c.requires, c.free_all.ensures.size)) c.free_all.ensures.free;
      size = c.free_all.ensures.size;
    }
