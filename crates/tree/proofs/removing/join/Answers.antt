use Rattle.std.proofs.Common.{◌<◌, refl, ◌∙◌, arith}
use Rattle.tree.proofs.Removed.{joined-balanceable, joined-both, joined-left, joined-right, right-goes, second-carries}
use Rattle.tree.proofs.removing.join.Goals as goal

pub returns-then-left-eq0 : goal.returns-then-left-eq0
returns-then-left-eq0 c =
    record { owned = joined-right _ _ _ c.if-left-eq0.true; used = λ r carries. omega arith; within = λ l r hs h. omega arith; size = refl; lent = refl }

pub returns-then-right-eq0 : goal.returns-then-right-eq0
returns-then-right-eq0 c =
    record { owned = joined-left _ _ _ c.if-right-eq0.true; used = λ r carries. omega arith; within = λ l r hs h. omega arith; size = refl; lent = refl }

pub take_first-first-requires : goal.take_first-first-requires
take_first-first-requires c = record { ready = right-goes _ _ _ c.requires.ready; numbered = omega (arith, c.if-right-eq0.false) }

pub balance-requires : goal.balance-requires
balance-requires c =
    let f = c.take_first-first.ensures in
    let some : 0 < c.args.right = omega (arith, c.if-right-eq0.false) in
    record {
      ready = rw c.over.ensures (joined-balanceable _ _ _ _ c.take_first-first.result.node _ some f.owned c.requires.ready);
      room = omega (arith, f.used c.requires.ready.r (second-carries _ _ _ _ _ _ c.requires.ready.holds), f.size, c.requires.ready.room);
    }

pub returns : goal.returns
returns c =
    let f = c.take_first-first.ensures in
    let some : 0 < c.args.right = omega (arith, c.if-right-eq0.false) in
    record {
      owned = joined-both _ _ _ _ c.take_first-first.result.node _ some f.owned (omega (arith, c.if-left-eq0.false)) _ _ (rw c.over.ensures at c.balance.ensures.owned);
      used = λ r carries. omega (arith, f.used r carries, c.balance.ensures.made.used);
      within = λ l r hs h. omega (arith, f.used r (second-carries _ _ _ l r hs h), c.balance.ensures.made.used);
      size = c.balance.ensures.made.size ∙ f.size;
      lent = c.balance.ensures.made.lent ∙ f.lent;
    }
