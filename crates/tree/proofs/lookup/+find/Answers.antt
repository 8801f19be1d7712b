use Rattle.std.proofs.Common.{false, Some, None, Option, Equal, sym, subst, refl}
use Rattle.tree.specs.Answer.{GivenValue}
use Rattle.tree.specs.Shape.{Item}
use Rattle.tree.proofs.Answering.{compared, find-by, find-listed, find_none, find-side, value-given}
use Rattle.tree.proofs.Bound.{kind_of}
use Rattle.tree.proofs.Descent.{numbered, to-side}
use Rattle.tree.proofs.lookup.+find.Goals as goal

pub returns-in_err-node : goal.returns-in_err-node
returns-in_err-node g t c =
    let P : Option (Item g.row.K.Denot) → Type 0 = λ o. GivenValue c.args.nodes.now g.V.Value.value o c.from_residual.result in
    let a = find_none c.args.nodes.now c.args.root (c.in_err-node.ensures.none.0 (refl {a = false})) g.K.Key.key g.K.Ord.cmp P (subst (GivenValue {K = g.row.K.Denot} c.args.nodes.now g.V.Value.value None) (sym c.from_residual.ensures) tt) c.args.key in
    record { answered = a; listed = find-listed (kind_of g.met.K.Key g.met.K.Ord.total) _ _ P c.args.key a }

pub find-requires : goal.find-requires
find-requires g t c κs =
    let n = numbered c.args.root c.in_ok-node.ensures.none.1 in
    let b = to-side _ c.requires.sound _ n _ c.in_ok-node.ensures.some _ c.decreases _ _ c.side.ensures c.requires in
    λ ls. (b.falls, (ls.0, (ls.1, b.readable)))

pub returns-in_default : goal.returns-in_default
returns-in_default g t c =
    let n = numbered c.args.root c.in_ok-node.ensures.none.1 in
    let P : Option (Item g.row.K.Denot) → Type 0 = λ o. GivenValue c.args.nodes.now g.V.Value.value o c.find.result in
    let a = find-side _ c.requires.sound _ n _ c.in_ok-node.ensures.some g.K.Key.key g.K.Ord.cmp P c.args.key _ c.in_default.not-Equal c.compare_at.ensures _ c.side.ensures c.find.ensures.answered in
    record { answered = a; listed = find-listed (kind_of g.met.K.Key g.met.K.Ord.total) _ _ P c.args.key a }

pub returns-in-Equal : goal.returns-in-Equal
returns-in-Equal g t c =
    let n = numbered c.args.root c.in_ok-node.ensures.none.1 in
    let P : Option (Item g.row.K.Denot) → Type 0 = λ o. GivenValue c.args.nodes.now g.V.Value.value o (Some c.value_of.result) in
    let e = compared c.compare_at.result _ Equal c.compare_at.ensures c.in-Equal.is in
    let a = find-by _ c.requires.sound _ n _ c.in_ok-node.ensures.some g.K.Key.key g.K.Ord.cmp P c.args.key Equal e (λ nested left right ls.
    value-given _ g.K.Key.key g.V.Value.value _ _ _ _ ls _ c.value_of.ensures) in
    record { answered = a; listed = find-listed (kind_of g.met.K.Key g.met.K.Ord.total) _ _ P c.args.key a }
