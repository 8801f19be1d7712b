use Rattle.std.proofs.Common.{false, None, Option, sym, subst, refl}
use Rattle.tree.specs.Answer.{GivenItem}
use Rattle.tree.specs.Shape.{Item}
use Rattle.tree.proofs.Answering.{at-most-given, at_most-by, at_most-listed, at_most-none}
use Rattle.tree.proofs.Bound.{kind_of}
use Rattle.tree.proofs.Descent.{numbered, to-side}
use Rattle.tree.proofs.lookup.+at_most.Goals as goal

pub returns-in_err-node : goal.returns-in_err-node
returns-in_err-node g t c =
    let P : Option (Item g.row.K.Denot) → Type 0 = λ o. GivenItem c.args.nodes.now g.V.Value.value o c.from_residual.result in
    let a = at_most-none c.args.nodes.now c.args.root (c.in_err-node.ensures.none.0 (refl {a = false})) g.K.Key.key g.K.Ord.cmp P (subst (GivenItem {K = g.row.K.Denot} c.args.nodes.now g.V.Value.value None) (sym c.from_residual.ensures) tt) c.args.key in
    record { answered = a; listed = at_most-listed (kind_of g.met.K.Key g.met.K.Ord.total) _ _ P c.args.key a }

pub at_most-found-requires : goal.at_most-found-requires
at_most-found-requires g t c κs =
    let n = numbered c.args.root c.in_ok-node.ensures.none.1 in
    let b = to-side _ c.requires.sound _ n _ c.in_ok-node.ensures.some _ c.decreases c.compare_at-ordering.result _ c.side.ensures c.requires in
    λ ls. (b.falls, (ls.0, (ls.1, b.readable)))

pub returns : goal.returns
returns g t c =
    let n = numbered c.args.root c.in_ok-node.ensures.none.1 in
    let P : Option (Item g.row.K.Denot) → Type 0 = λ o. GivenItem c.args.nodes.now g.V.Value.value o c.or_at_most.result in
    let a = at_most-by _ c.requires.sound _ n _ c.in_ok-node.ensures.some g.K.Key.key g.K.Ord.cmp P c.args.key c.compare_at-ordering.result (sym c.compare_at-ordering.ensures)
    (at-most-given _ g.K.Key.key g.K.Ord.cmp g.V.Value.value c.in_ok-node.node c.args.key _ c.at_most-found.result c.or_at_most.result c.at_most-found.ensures.answered
    c.compare_at-ordering.result c.side.ensures c.or_at_most.ensures) in
    record { answered = a; listed = at_most-listed (kind_of g.met.K.Key g.met.K.Ord.total) _ _ P c.args.key a }
