use Rattle.std.proofs.Common.{false, None, Option, Less, Greater, sym, refl, ◌∙◌, subst}
use Rattle.tree.specs.Answer.{GivenItem}
use Rattle.tree.specs.Lookup.{after}
use Rattle.tree.specs.Shape.{Item}
use Rattle.tree.proofs.Answering.{after-before, after-listed, after_none, after-past, either-given}
use Rattle.tree.proofs.Bound.{kind_of}
use Rattle.tree.proofs.Descent.{numbered, side-carries, to-side}
use Rattle.tree.proofs.lookup.+after.Goals as goal

pub returns-in_err-node : goal.returns-in_err-node
returns-in_err-node g t c =
    let P : Option (Item g.row.K.Denot) → Type 0 = λ o. GivenItem c.args.nodes.now g.V.Value.value o c.from_residual.result in
    let a = after_none c.args.nodes.now c.args.root (c.in_err-node.ensures.none.0 (refl {a = false})) g.K.Key.key g.K.Ord.cmp P (subst (GivenItem {K = g.row.K.Denot} c.args.nodes.now g.V.Value.value None) (sym c.from_residual.ensures) tt) c.args.key in
    record { answered = a; listed = after-listed (kind_of g.met.K.Key g.met.K.Ord.total) _ _ P c.args.key a }

pub after-requires : goal.after-requires
after-requires g t c κs =
    let n = numbered c.args.root c.in_ok-node.ensures.none.1 in
    let b = to-side _ c.requires.sound _ n _ c.in_ok-node.ensures.some _ c.decreases Less _ c.side.ensures c.requires in
    λ ls. (b.falls, (ls.0, (ls.1, b.readable)))

pub after-requires-else-is_before : goal.after-requires-else-is_before
after-requires-else-is_before g t c κs =
    let n = numbered c.args.root c.in_ok-node.ensures.none.1 in
    let b = to-side _ c.requires.sound _ n _ c.in_ok-node.ensures.some _ c.decreases Greater _ c.side-else-is_before.ensures c.requires in
    λ ls. (b.falls, (ls.0, (ls.1, b.readable)))

pub returns-then-is_before : goal.returns-then-is_before
returns-then-is_before g t c =
    let n = numbered c.args.root c.in_ok-node.ensures.none.1 in
    let P : Option (Item g.row.K.Denot) → Type 0 = λ o. GivenItem c.args.nodes.now g.V.Value.value o c.or_item.result in
    let a = after-before _ c.requires.sound _ n _ c.in_ok-node.ensures.some g.K.Key.key g.K.Ord.cmp P c.args.key _ refl (sym c.is_before.ensures ∙ c.if-is_before.true) (λ nested left right ls.
    either-given _ g.K.Key.key g.V.Value.value _ _ _ _ ls (after g.K.Key.key g.K.Ord.cmp c.args.key left) c.after.result c.or_item.result c.or_item.ensures
    (c.after.ensures.answered left (side-carries _ _ _ _ _ ls Less _ c.side.ensures))) in
    record { answered = a; listed = after-listed (kind_of g.met.K.Key g.met.K.Ord.total) _ _ P c.args.key a }

pub returns-else-is_before : goal.returns-else-is_before
returns-else-is_before g t c =
    let n = numbered c.args.root c.in_ok-node.ensures.none.1 in
    let P : Option (Item g.row.K.Denot) → Type 0 = λ o. GivenItem c.args.nodes.now g.V.Value.value o c.after-else-is_before.result in
    let a = after-past _ c.requires.sound _ n _ c.in_ok-node.ensures.some g.K.Key.key g.K.Ord.cmp P c.args.key _ refl (sym c.is_before.ensures ∙ c.if-is_before.false) (λ nested left right ls.
    c.after-else-is_before.ensures.answered right (side-carries _ _ _ _ _ ls Greater _ c.side-else-is_before.ensures)) in
    record { answered = a; listed = after-listed (kind_of g.met.K.Key g.met.K.Ord.total) _ _ P c.args.key a }
