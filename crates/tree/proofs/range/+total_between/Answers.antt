use Rattle.std.proofs.Common.{false, refl}
use Rattle.tree.proofs.Bound.{kind_of}
use Rattle.tree.proofs.Descent.{numbered}
use Rattle.tree.proofs.Ranging.{inner-fits, none-totals, outer-fits, parts, to_back, to_front, walk-listed, walk_none, walk-totals}
use Rattle.tree.proofs.range.+total_between.Goals as goal

pub returns-in_default : goal.returns-in_default
returns-in_default g t c =
    let a = walk_none (kind_of g.met.K.Key g.met.K.Ord.total) c.args.low c.args.high _ _ (c.in_default.ensures.none.0 (refl {a = false})) _ (none-totals _ c.default.ensures.0 c.default.ensures.1) in
    record { answered = a; listed = walk-listed (kind_of g.met.K.Key g.met.K.Ord.total) _ _ _ _ _ a }

pub total_between-below-requires : goal.total_between-below-requires
total_between-below-requires g t c κs within =
    let n = numbered c.args.root c.in-Some.ensures.none.1 in
    let b = to_front (kind_of g.met.K.Key g.met.K.Ord.total) c.args.low c.args.high _ c.requires.held _ n _ c.in-Some.ensures.some _ c.decreases _ c.left_from.ensures
    c.requires.carried in
    (b.falls, (within, (c.requires.held, b.carried)))

pub total_between-above-requires : goal.total_between-above-requires
total_between-above-requires g t c κs within =
    let n = numbered c.args.root c.in-Some.ensures.none.1 in
    let b = to_back (kind_of g.met.K.Key g.met.K.Ord.total) c.args.low c.args.high _ c.requires.held _ n _ c.in-Some.ensures.some _ c.decreases _ c.right_to.ensures
    c.requires.carried in
    (b.falls, (within, (c.requires.held, b.carried)))

pub add-requires : goal.add-requires
add-requires g t c =
    let n = numbered c.args.root c.in-Some.ensures.none.1 in
    let ps = parts (kind_of g.met.K.Key g.met.K.Ord.total) c.args.low c.args.high c.args.nodes.now c.in-Some.node _ _ _ _ _ c.left_from.ensures c.right_to.ensures
    c.total_between-below.ensures.answered c.own.ensures c.total_between-above.ensures.answered in
    inner-fits (kind_of g.met.K.Key g.met.K.Ord.total) c.args.low c.args.high _ c.requires.held _ n _ c.in-Some.ensures.some _ _ _ ps c.requires.carried

pub add-requires-2 : goal.add-requires-2
add-requires-2 g t c =
    let n = numbered c.args.root c.in-Some.ensures.none.1 in
    let ps = parts (kind_of g.met.K.Key g.met.K.Ord.total) c.args.low c.args.high c.args.nodes.now c.in-Some.node _ _ _ _ _ c.left_from.ensures c.right_to.ensures
    c.total_between-below.ensures.answered c.own.ensures c.total_between-above.ensures.answered in
    outer-fits (kind_of g.met.K.Key g.met.K.Ord.total) c.args.low c.args.high _ c.requires.held _ n _ c.in-Some.ensures.some _ _ _ ps _
    c.add.ensures.count c.add.ensures.sum c.requires.carried

pub returns : goal.returns
returns g t c =
    let n = numbered c.args.root c.in-Some.ensures.none.1 in
    let ps = parts (kind_of g.met.K.Key g.met.K.Ord.total) c.args.low c.args.high c.args.nodes.now c.in-Some.node _ _ _ _ _ c.left_from.ensures c.right_to.ensures
    c.total_between-below.ensures.answered c.own.ensures c.total_between-above.ensures.answered in
    let a = walk-totals (kind_of g.met.K.Key g.met.K.Ord.total) c.args.low c.args.high _ c.requires.held _ n _ c.in-Some.ensures.some _ _ _ ps _
    c.add.ensures.count c.add.ensures.sum _ c.add-2.ensures.count c.add-2.ensures.sum in
    record { answered = a; listed = walk-listed (kind_of g.met.K.Key g.met.K.Ord.total) _ _ _ _ _ a }
