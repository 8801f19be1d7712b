use Rattle.std.proofs.Common.{◌<◌, sym, ◌∙◌, arith}
use Rattle.std.proofs.lemmas.Bool.{ltb-false, ltb-true}
use Rattle.tree.proofs.Rotating.{below-ready, double-ready, faced, joins, last-less, leans-single, low, middle-carried, outer-carried, parted, rotated-once, rotated-twice, top-ready}
use Rattle.tree.proofs.rebuild.rotate.Goals as goal

pub take_apart-child-requires-clause-held : goal.take_apart-child-requires-clause-held
take_apart-child-requires-clause-held c =
    let l = low c.args.end (faced c.args.end c.requires.numbered c.turned-near.ensures.first c.turned-near.ensures.second) c.requires.ready in
    (_, _, l.trees.holds, omega (arith, l.few))

pub stored_height-requires : goal.stored_height-requires
stored_height-requires c =
    let f = faced c.args.end c.requires.numbered c.turned-near.ensures.first c.turned-near.ensures.second in
    let e = c.take_apart-child.ensures in
    let s = parted c.args.end c.requires.ready f e.node e.owned e.shared e.last c.turned-outer.ensures.first c.turned-outer.ensures.second in
    outer-carried s

pub stored_height-requires-2 : goal.stored_height-requires-2
stored_height-requires-2 c =
    let f = faced c.args.end c.requires.numbered c.turned-near.ensures.first c.turned-near.ensures.second in
    let e = c.take_apart-child.ensures in
    let s = parted c.args.end c.requires.ready f e.node e.owned e.shared e.last c.turned-outer.ensures.first c.turned-outer.ensures.second in
    middle-carried s

pub rotate_double-requires : goal.rotate_double-requires
rotate_double-requires c =
    let f = faced c.args.end c.requires.numbered c.turned-near.ensures.first c.turned-near.ensures.second in
    let e = c.take_apart-child.ensures in
    let s = parted c.args.end c.requires.ready f e.node e.owned e.shared e.last c.turned-outer.ensures.first c.turned-outer.ensures.second in
    record {
      ready = double-ready s _ _ c.stored_height.ensures c.stored_height-2.ensures _ _ c.turned.ensures.first c.turned.ensures.second
          (ltb-true _ _ (sym c.is_double.ensures ∙ c.if-is_double.true));
      room = omega (arith, e.size);
    }

pub build-below-requires : goal.build-below-requires
build-below-requires c =
    let f = faced c.args.end c.requires.numbered c.turned-near.ensures.first c.turned-near.ensures.second in
    let e = c.take_apart-child.ensures in
    let s = parted c.args.end c.requires.ready f e.node e.owned e.shared e.last c.turned-outer.ensures.first c.turned-outer.ensures.second in
    record { ready = below-ready s _ c.over.ensures; room = omega (arith, e.size) }

pub build-requires : goal.build-requires
build-requires c =
    let f = faced c.args.end c.requires.numbered c.turned-near.ensures.first c.turned-near.ensures.second in
    let e = c.take_apart-child.ensures in
    let s = parted c.args.end c.requires.ready f e.node e.owned e.shared e.last c.turned-outer.ensures.first c.turned-outer.ensures.second in
    record {
      ready = top-ready s _ _ (joins c.args.end _ c.args.root _ _ _ c.over.ensures _ _ c.build-below.ensures.owned) _ c.over-else-is_double.ensures;
      room = omega (arith, e.size, c.build-below.ensures.used, c.build-below.ensures.size);
    }

pub returns-then-is_double : goal.returns-then-is_double
returns-then-is_double c =
    let test : c.stored_height.result < c.stored_height-2.result = ltb-true _ _ (sym c.is_double.ensures ∙ c.if-is_double.true) in
    let f = faced c.args.end c.requires.numbered c.turned-near.ensures.first c.turned-near.ensures.second in
    let e = c.take_apart-child.ensures in
    let s = parted c.args.end c.requires.ready f e.node e.owned e.shared e.last c.turned-outer.ensures.first c.turned-outer.ensures.second in
    let g = c.rotate_double.ensures.made in
    record {
      owned = rotated-twice s _ _ c.stored_height.ensures c.stored_height-2.ensures _ _ c.turned.ensures.first c.turned.ensures.second test _ _ c.rotate_double.ensures.owned;
      made = record { used = omega (arith, g.used); fresh = g.fresh; size = g.size ∙ e.size; lent = g.lent ∙ e.lent };
      single = λ is nested l r hs h leans one.
          absurd (omega (arith, test, leans-single s _ _ c.stored_height.ensures c.stored_height-2.ensures is nested l r hs h leans));
    }

pub returns-else-is_double : goal.returns-else-is_double
returns-else-is_double c =
    let f = faced c.args.end c.requires.numbered c.turned-near.ensures.first c.turned-near.ensures.second in
    let e = c.take_apart-child.ensures in
    let s = parted c.args.end c.requires.ready f e.node e.owned e.shared e.last c.turned-outer.ensures.first c.turned-outer.ensures.second in
    let a = c.build-below.ensures in
    let b = c.build.ensures in
    record {
      owned = rotated-once s _ _ c.stored_height.ensures c.stored_height-2.ensures _ _ _ _ (ltb-false _ _ (sym c.is_double.ensures ∙ c.if-is_double.false))
          (joins c.args.end _ c.args.root _ _ _ c.over.ensures _ _ a.owned) (joins c.args.end _ c.take_apart-child.result _ _ _ c.over-else-is_double.ensures _ _ b.owned);
      made = record { used = omega (arith, a.used, b.used); fresh = b.fresh; size = b.size ∙ a.size ∙ e.size; lent = b.lent ∙ a.lent ∙ e.lent };
      single = λ is nested l r hs h leans one. omega (arith, a.used, b.used, last-less s is one);
    }
