use Rattle.std.proofs.Common.{rules, ◌≡◌, suc, max, arith}
use Rattle.tree.proofs.Building.{built, left-carries, right-carries}
use Rattle.tree.specs.Shape.{height}
use Rattle.tree.proofs.rebuild.build.Goals as goal

pub stored_height-requires : goal.stored_height-requires
stored_height-requires c =
    let b = c.requires.ready in
    (b.l, left-carries c.args.pool.now c.args.root c.args.root.left c.args.root.right b.nested b.l b.r b.others b.holds)

pub stored_height-requires-2 : goal.stored_height-requires-2
stored_height-requires-2 c =
    let b = c.requires.ready in
    (b.r, right-carries c.args.pool.now c.args.root c.args.root.left c.args.root.right b.nested b.l b.r b.others b.holds)

pub height_over-height-requires : goal.height_over-height-requires
height_over-height-requires c =
    let b = c.requires.ready in
    let x = c.stored_height.ensures b.l (left-carries c.args.pool.now c.args.root c.args.root.left c.args.root.right b.nested b.l b.r b.others b.holds) in
    let y = c.stored_height-2.ensures b.r (right-carries c.args.pool.now c.args.root c.args.root.left c.args.root.right b.nested b.l b.r b.others b.holds) in
    (omega (arith, b.low_left), omega (arith, b.low_right))

pub returns : goal.returns
returns c =
    record {
      owned = λ nested l r hs h.
          let x = c.stored_height.ensures l (left-carries c.args.pool.now c.args.root c.args.root.left c.args.root.right nested l r hs h) in
          let y = c.stored_height-2.ensures r (right-carries c.args.pool.now c.args.root c.args.root.left c.args.root.right nested l r hs h) in
          let high : c.height_over-height.result ≡ suc (max (height l) (height r)) = omega (arith, c.height_over-height.ensures) in
          built c.take.new.self c.args.root c.take.result c.height_over-height.result _ nested l r hs (c.take.ensures.owned nested l r hs h) (search rules) high;
      used = c.take.ensures.used;
      fresh = c.take.ensures.fresh;
      size = c.take.ensures.size;
      lent = c.take.ensures.lent;
    }
