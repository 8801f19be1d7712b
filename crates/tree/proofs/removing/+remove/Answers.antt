use Rattle.std.proofs.Common.{rules, ◌<◌, sym, refl, ◌∙◌, arith}
use Rattle.pool.specs.Sound.{used_of}
use Rattle.tree.proofs.Removed.{left-removable, left-shrunk, low-standing, removed-equal, removed-greater, removed-leaf, removed-less, right-removable, right-shrunk, root-leaving}
use Rattle.tree.proofs.Rotating.{apart-fewer, puts}
use Rattle.tree.proofs.Standing.{at_nested, left-falls, left-lower, right-falls, right-lower, standing-height, stood-left, stood-right}
use Rattle.tree.specs.Insert.{compared}
use Rattle.tree.proofs.Sides.{worded}
use Rattle.tree.specs.Rebuild.{balance}
use Rattle.tree.proofs.removing.+remove.Goals as goal

pub returns-then-n-eq0 : goal.returns-then-n-eq0
returns-then-n-eq0 g t c =
    record {
      owned = removed-leaf (compared g.K.Key.key g.K.Ord.cmp c.args.key) _ _ c.if-n-eq0.true;
      used = λ u carries. omega arith;
      size = refl;
      lent = refl;
    }

pub take_apart-node-requires : goal.take_apart-node-requires
take_apart-node-requires g t c =
    record { held = (_, _, c.requires.ready.holds, omega (arith, c.requires.ready.few)); numbered = omega (arith, c.if-n-eq0.false) }

pub remove-left-requires : goal.remove-left-requires
remove-left-requires g t c κs =
    let n : 0 < c.args.n = omega (arith, c.if-n-eq0.false) in
    let d = low-standing c.requires.ready n in
    let e = c.take_apart-node.ensures in
    let fewer = apart-fewer _ _ _ (used_of c.args.pool.now) (used_of c.take_apart-node.new.self) _ _ d.trees.holds n e.node e.shared e.last in
    λ live. (omega (arith, c.decreases, left-falls d.trees _ _ e.owned d.balanced), (live, left-removable d _ _ e.owned fewer e.size))

pub remove-right-requires : goal.remove-right-requires
remove-right-requires g t c κs =
    let n : 0 < c.args.n = omega (arith, c.if-n-eq0.false) in
    let d = low-standing c.requires.ready n in
    let e = c.take_apart-node.ensures in
    let fewer = apart-fewer _ _ _ (used_of c.args.pool.now) (used_of c.take_apart-node.new.self) _ _ d.trees.holds n e.node e.shared e.last in
    λ live. (omega (arith, c.decreases, right-falls d.trees _ _ e.owned d.balanced), (live, right-removable d _ _ e.owned fewer e.size))

pub balance-requires : goal.balance-requires
balance-requires g t c =
    let n : 0 < c.args.n = omega (arith, c.if-n-eq0.false) in
    let d = low-standing c.requires.ready n in
    let e = c.take_apart-node.ensures in
    let fewer = apart-fewer _ _ _ (used_of c.args.pool.now) (used_of c.take_apart-node.new.self) _ _ d.trees.holds n e.node e.shared e.last in
    let used = c.remove-left.ensures.used _ (stood-left d.trees _ _ e.owned) in
    record {
      ready = worded _ c.take_apart-node.result _ _ _ (left-shrunk d _ _ e.owned _ _ _ c.remove-left.ensures.owned);
      room = omega (arith, fewer, used, d.room, left-lower d.trees d.balanced, e.size, c.remove-left.ensures.size);
    }

pub balance-requires-in-Greater : goal.balance-requires-in-Greater
balance-requires-in-Greater g t c =
    let n : 0 < c.args.n = omega (arith, c.if-n-eq0.false) in
    let d = low-standing c.requires.ready n in
    let e = c.take_apart-node.ensures in
    let fewer = apart-fewer _ _ _ (used_of c.args.pool.now) (used_of c.take_apart-node.new.self) _ _ d.trees.holds n e.node e.shared e.last in
    let used = c.remove-right.ensures.used _ (stood-right d.trees _ _ e.owned) in
    record {
      ready = worded _ c.take_apart-node.result _ _ _ (right-shrunk d _ _ e.owned _ _ _ c.remove-right.ensures.owned);
      room = omega (arith, fewer, used, d.room, right-lower d.trees d.balanced, e.size, c.remove-right.ensures.size);
    }

pub join_sides-requires : goal.join_sides-requires
join_sides-requires g t c =
    let n : 0 < c.args.n = omega (arith, c.if-n-eq0.false) in
    let d = low-standing c.requires.ready n in
    let e = c.take_apart-node.ensures in
    let fewer = apart-fewer _ _ _ (used_of c.args.pool.now) (used_of c.take_apart-node.new.self) _ _ d.trees.holds n e.node e.shared e.last in
    record { ready = root-leaving d _ _ e.owned fewer e.size }

pub returns-in-Less : goal.returns-in-Less
returns-in-Less g t c =
    let n : 0 < c.args.n = omega (arith, c.if-n-eq0.false) in
    let d = low-standing c.requires.ready n in
    let e = c.take_apart-node.ensures in
    let fewer = apart-fewer _ _ _ (used_of c.args.pool.now) (used_of c.take_apart-node.new.self) _ _ d.trees.holds n e.node e.shared e.last in
    let used = c.remove-left.ensures.used _ (stood-left d.trees _ _ e.owned) in
    let less = sym c.in-Less.ensures in
    record {
      owned = removed-less _ _ _ _ c.take_apart-node.result n e.owned _ _ _ _ less c.remove-left.ensures.owned (puts balance _ _ c.take_apart-node.result _ _ _ _ c.balance.ensures.owned (search rules));
      used = λ u carries. omega (arith, standing-height d.trees u carries, left-lower d.trees d.balanced, fewer, used, c.balance.ensures.made.used);
      size = c.balance.ensures.made.size ∙ c.remove-left.ensures.size ∙ e.size;
      lent = c.balance.ensures.made.lent ∙ c.remove-left.ensures.lent ∙ e.lent;
    }

pub returns-in-Equal : goal.returns-in-Equal
returns-in-Equal g t c =
    let n : 0 < c.args.n = omega (arith, c.if-n-eq0.false) in
    let d = low-standing c.requires.ready n in
    let e = c.take_apart-node.ensures in
    let fewer = apart-fewer _ _ _ (used_of c.args.pool.now) (used_of c.take_apart-node.new.self) _ _ d.trees.holds n e.node e.shared e.last in
    let used = c.join_sides.ensures.used _ _ _ _ (at_nested d.trees _ _ e.owned) in
    let equal = sym c.in-Equal.ensures in
    record {
      owned = removed-equal _ _ _ _ c.take_apart-node.result n e.owned _ _ equal c.join_sides.ensures.owned;
      used = λ u carries. omega (arith, standing-height d.trees u carries, right-lower d.trees d.balanced, fewer, used);
      size = c.join_sides.ensures.size ∙ e.size;
      lent = c.join_sides.ensures.lent ∙ e.lent;
    }

pub returns-in-Greater : goal.returns-in-Greater
returns-in-Greater g t c =
    let n : 0 < c.args.n = omega (arith, c.if-n-eq0.false) in
    let d = low-standing c.requires.ready n in
    let e = c.take_apart-node.ensures in
    let fewer = apart-fewer _ _ _ (used_of c.args.pool.now) (used_of c.take_apart-node.new.self) _ _ d.trees.holds n e.node e.shared e.last in
    let used = c.remove-right.ensures.used _ (stood-right d.trees _ _ e.owned) in
    let greater = sym c.in-Greater.ensures in
    record {
      owned = removed-greater _ _ _ _ c.take_apart-node.result n e.owned _ _ _ _ greater c.remove-right.ensures.owned (puts balance _ _ c.take_apart-node.result _ _ _ _ c.balance-in-Greater.ensures.owned (search rules));
      used = λ u carries. omega (arith, standing-height d.trees u carries, right-lower d.trees d.balanced, fewer, used, c.balance-in-Greater.ensures.made.used);
      size = c.balance-in-Greater.ensures.made.size ∙ c.remove-right.ensures.size ∙ e.size;
      lent = c.balance-in-Greater.ensures.made.lent ∙ c.remove-right.ensures.lent ∙ e.lent;
    }
