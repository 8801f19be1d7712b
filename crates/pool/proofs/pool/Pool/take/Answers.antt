use Rattle.pool.proofs.Pools.{take-free, took, took-fresh}
use Rattle.pool.proofs.pool.Pool.take.Goals as goal

pub fill_first-requires : goal.fill_first-requires
fill_first-requires c =
    let f = take-free _ _ c.requires.held.4 c.requires.room in
    record { numbered = f.0; within = f.1; next = f.2; small = f.3; room = c.requires.room }

pub returns : goal.returns
returns c =
    let e = c.fill_first.ensures in
    record {
      owned = took _ _ _ c.args.contents e.node e.memory e.free e.used c.requires.room;
      used = e.used;
      fresh = took-fresh c.args.self.now c.fill_first.new.self c.fill_first.result c.args.contents _ e.node e.memory c.requires.room c.requires.held.4;
      size = e.size;
      lent = e.lent;
    }
