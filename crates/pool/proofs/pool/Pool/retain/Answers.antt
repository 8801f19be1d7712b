use Rattle.std.proofs.Common.{◌<◌, refl, arith}
use Rattle.pool.proofs.Nodes.{used-within}
use Rattle.pool.proofs.Pools.{carries-recounted, held-carries, holds-leaf, retain-fits, retained}
use Rattle.pool.proofs.pool.Pool.retain.Goals as goal

pub raise-requires : goal.raise-requires
raise-requires c =
    let n : 0 < c.args.n = omega arith in
    record {
      numbered = n;
      within = used-within _ _ (c.requires.carried.1.kept n);
      fits = retain-fits _ _ c.requires.held.0 c.requires.held.1 c.requires.held.2;
    }

pub returns-then-n-ne0 : goal.returns-then-n-ne0
returns-then-n-ne0 c =
    let n : 0 < c.args.n = omega arith in
    let e = c.raise.ensures in
    let more = retained _ _ _ e.memory e.free e.used n in
    record {
      owned = more;
      again = λ t hs h. more t _ h (held-carries _ _ t hs h);
      kept = carries-recounted c.args.self.now c.raise.new.self _ _ e.memory (omega arith) (c.requires.carried.1.kept n);
      used = e.used;
      size = e.size;
      lent = e.lent;
    }

pub returns-else-n-ne0 : goal.returns-else-n-ne0
returns-else-n-ne0 c =
    record {
      owned = λ t hs h carries. holds-leaf _ _ t hs (omega arith) carries.linked h;
      again = λ t hs h. holds-leaf _ _ t _ (omega arith) (held-carries _ _ t hs h).linked h;
      kept = λ m t h. h;
      used = refl;
      size = refl;
      lent = refl;
    }
