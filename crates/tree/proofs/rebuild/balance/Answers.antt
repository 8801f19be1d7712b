use Rattle.std.proofs.Common.{◌+◌, ◌<◌, ◌≤◌, sym, refl, ◌∙◌, arith}
use Rattle.std.proofs.lemmas.Bool.{ltb-false, ltb-true}
use Rattle.tree.proofs.Building.{left-carries, right-carries}
use Rattle.tree.proofs.Balancing.{balanced_left, balanced-level, balanced_right}
use Rattle.tree.proofs.Rotating.{numbered-fork}
use Rattle.tree.proofs.rebuild.balance.Goals as goal

pub stored_height-before-requires : goal.stored_height-before-requires
stored_height-before-requires c =
    let b = c.requires.ready in (b.l, left-carries _ c.args.root _ c.args.root.right b.nested b.l b.r b.others b.holds)

pub stored_height-behind-requires : goal.stored_height-behind-requires
stored_height-behind-requires c =
    let b = c.requires.ready in (b.r, right-carries _ c.args.root c.args.root.left _ b.nested b.l b.r b.others b.holds)

pub is_too_high-requires : goal.is_too_high-requires
is_too_high-requires c =
    let b = c.requires.ready in
    omega (arith, b.low_right, c.stored_height-behind.ensures b.r (right-carries _ c.args.root c.args.root.left _ b.nested b.l b.r b.others b.holds))

pub rotate-requires : goal.rotate-requires
rotate-requires c =
    let test : c.stored_height-behind.result + 1 < c.stored_height-before.result = omega (arith, ltb-true _ _ (sym c.is_too_high.ensures ∙ c.if-is_too_high.true)) in
    let b = c.requires.ready in
    let carries = left-carries _ c.args.root _ c.args.root.right b.nested b.l b.r b.others b.holds in
    let high = c.stored_height-before.ensures b.l carries in
    record { ready = b; numbered = numbered-fork c.args.pool.now _ b.l carries (omega arith); room = c.requires.room }

pub is_too_high-requires-else-is_too_high : goal.is_too_high-requires-else-is_too_high
is_too_high-requires-else-is_too_high c =
    let b = c.requires.ready in
    omega (arith, b.low_left, c.stored_height-before.ensures b.l (left-carries _ c.args.root _ c.args.root.right b.nested b.l b.r b.others b.holds))

pub rotate-requires-then-is_too_high-2 : goal.rotate-requires-then-is_too_high-2
rotate-requires-then-is_too_high-2 c =
    let test : c.stored_height-before.result + 1 < c.stored_height-behind.result = omega (arith, ltb-true _ _ (sym c.is_too_high-else-is_too_high.ensures ∙ c.if-is_too_high-2.true)) in
    let b = c.requires.ready in
    let carries = right-carries _ c.args.root c.args.root.left _ b.nested b.l b.r b.others b.holds in
    let high = c.stored_height-behind.ensures b.r carries in
    record { ready = b; numbered = numbered-fork c.args.pool.now _ b.r carries (omega arith); room = c.requires.room }

pub build-requires : goal.build-requires
build-requires c =
    let b = c.requires.ready in
    record {
      ready = record {
        nested = b.nested;
        l = b.l;
        r = b.r;
        others = b.others;
        holds = b.holds;
        low_left = omega (arith, b.low_left);
        low_right = omega (arith, b.low_right);
      };
      room = omega (arith, c.requires.room);
    }

pub returns-then-is_too_high : goal.returns-then-is_too_high
returns-then-is_too_high c =
    let test : c.stored_height-behind.result + 1 < c.stored_height-before.result = omega (arith, ltb-true _ _ (sym c.is_too_high.ensures ∙ c.if-is_too_high.true)) in
    let m = c.stored_height-before.ensures in
    let n = c.stored_height-behind.ensures in
    record {
      owned = balanced_left _ _ c.args.root _ _ _ _ m n test _ c.rotate.ensures.owned;
      made = c.rotate.ensures.made;
      level = λ nested l r hs h low high.
          let x = m l (left-carries _ c.args.root _ c.args.root.right nested l r hs h) in
          let y = n r (right-carries _ c.args.root c.args.root.left _ nested l r hs h) in
          absurd (omega (arith, test));
      single = λ nested l r hs h high leans one.
          let x = m l (left-carries _ c.args.root _ c.args.root.right nested l r hs h) in
          let y = n r (right-carries _ c.args.root c.args.root.left _ nested l r hs h) in
          absurd (omega (arith, test));
    }

pub returns-then-is_too_high-2 : goal.returns-then-is_too_high-2
returns-then-is_too_high-2 c =
    let low : c.stored_height-before.result ≤ c.stored_height-behind.result + 1 = omega (arith, ltb-false _ _ (sym c.is_too_high.ensures ∙ c.if-is_too_high.false)) in
    let test : c.stored_height-before.result + 1 < c.stored_height-behind.result = omega (arith, ltb-true _ _ (sym c.is_too_high-else-is_too_high.ensures ∙ c.if-is_too_high-2.true)) in
    let m = c.stored_height-before.ensures in
    let n = c.stored_height-behind.ensures in
    record {
      owned = balanced_right _ _ c.args.root _ _ _ _ m n low test _ c.rotate-then-is_too_high-2.ensures.owned;
      made = c.rotate-then-is_too_high-2.ensures.made;
      level = λ nested l r hs h by_left by_right.
          let x = m l (left-carries _ c.args.root _ c.args.root.right nested l r hs h) in
          let y = n r (right-carries _ c.args.root c.args.root.left _ nested l r hs h) in
          absurd (omega (arith, test));
      single = λ nested l r hs h high. c.rotate-then-is_too_high-2.ensures.single refl nested l r hs h;
    }

pub returns-else-is_too_high-2 : goal.returns-else-is_too_high-2
returns-else-is_too_high-2 c =
    let low : c.stored_height-before.result ≤ c.stored_height-behind.result + 1 = omega (arith, ltb-false _ _ (sym c.is_too_high.ensures ∙ c.if-is_too_high.false)) in
    let high : c.stored_height-behind.result ≤ c.stored_height-before.result + 1 = omega (arith, ltb-false _ _ (sym c.is_too_high-else-is_too_high.ensures ∙ c.if-is_too_high-2.false)) in
    let m = c.stored_height-before.ensures in
    let n = c.stored_height-behind.ensures in
    record {
      owned = balanced-level _ _ c.args.root _ _ _ _ m n low high _ c.build.ensures.owned;
      made = record { used = omega (arith, c.build.ensures.used); fresh = c.build.ensures.fresh; size = c.build.ensures.size; lent = c.build.ensures.lent };
      level = λ nested l r hs h by_left by_right. c.build.ensures.used;
      single = λ nested l r hs h high leans one. c.build.ensures.used;
    }
