use Rattle.std.proofs.Common.{false, None, Option, sym, subst, refl}
use Rattle.tree.specs.Answer.{GivenItem}
use Rattle.tree.specs.Ends.{at_end}
use Rattle.tree.specs.Lookup.{first, last}
use Rattle.tree.specs.Shape.{Item}
use Rattle.tree.proofs.Answering.{either-given, outermost-by, outermost-given, outermost-listed, outermost-none}
use Rattle.tree.proofs.Bound.{kind_of}
use Rattle.tree.proofs.Descent.{numbered, to-end}
use Rattle.tree.proofs.lookup.+outermost.Goals as goal

pub returns-in_err-node : goal.returns-in_err-node
returns-in_err-node g t c =
    let P : Option (Item g.row.K.Denot) → Type 0 = λ o. GivenItem c.args.nodes.now g.V.Value.value o c.from_residual.result in
    let a = outermost-none c.args.nodes.now c.args.root (c.in_err-node.ensures.none.0 (refl {a = false})) g.K.Key.key g.K.Ord.cmp P (subst (GivenItem {K = g.row.K.Denot} c.args.nodes.now g.V.Value.value None) (sym c.from_residual.ensures) tt) c.args.end in
    record { answered = a; listed = outermost-listed (kind_of g.met.K.Key g.met.K.Ord.total) _ _ P c.args.end a }

pub outermost-requires : goal.outermost-requires
outermost-requires g t c κs =
    let n = numbered c.args.root c.in_ok-node.ensures.none.1 in
    let b = to-end _ c.requires.sound _ n _ c.in_ok-node.ensures.some _ c.decreases c.args.end _ c.side.ensures c.requires in
    λ ls. (b.falls, (ls.0, (ls.1, b.readable)))

pub returns : goal.returns
returns g t c =
    let n = numbered c.args.root c.in_ok-node.ensures.none.1 in
    let P : Option (Item g.row.K.Denot) → Type 0 = λ o. GivenItem c.args.nodes.now g.V.Value.value o c.or_item.result in
    let a = outermost-by _ c.requires.sound _ n _ c.in_ok-node.ensures.some g.K.Key.key g.K.Ord.cmp P c.args.end (λ nested left right ls.
    either-given _ g.K.Key.key g.V.Value.value _ _ _ _ ls (at_end c.args.end (first g.K.Key.key g.K.Ord.cmp left) (last g.K.Key.key g.K.Ord.cmp right)) c.outermost.result c.or_item.result c.or_item.ensures
    (outermost-given c.args.nodes.now g.K.Key.key g.K.Ord.cmp c.in_ok-node.node nested left right ls (λ o. GivenItem c.args.nodes.now g.V.Value.value o c.outermost.result) c.args.end _ c.side.ensures c.outermost.ensures.answered)) in
    record { answered = a; listed = outermost-listed (kind_of g.met.K.Key g.met.K.Ord.total) _ _ P c.args.end a }
