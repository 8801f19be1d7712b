use Rattle.std.proofs.Common.{◌<◌, ◌∙◌, arith}
use Rattle.pool.specs.Sound.{used_of}
use Rattle.tree.proofs.Removed.{first-here, first-lower, left-removable, low-standing, rest-balanceable}
use Rattle.tree.proofs.Rotating.{apart-fewer}
use Rattle.tree.proofs.Standing.{left-falls, left-lower, standing-height, stood-left}
use Rattle.tree.proofs.removing.+take_first.Goals as goal

pub take_apart-node-requires : goal.take_apart-node-requires
take_apart-node-requires t c =
    record { held = (_, _, c.requires.ready.holds, omega (arith, c.requires.ready.few)); numbered = c.requires.numbered }

pub returns-then-node-eq0 : goal.returns-then-node-eq0
returns-then-node-eq0 t c =
    let d = low-standing c.requires.ready c.requires.numbered in
    let e = c.take_apart-node.ensures in
    let fewer = apart-fewer _ _ _ (used_of c.args.pool.now) (used_of c.take_apart-node.new.self) _ _ d.trees.holds c.requires.numbered e.node e.shared e.last in
    record {
      owned = first-here _ _ _ c.take_apart-node.result e.owned _ c.here.ensures c.if-node-eq0.true;
      used = λ u carries. omega (arith, fewer, standing-height d.trees u carries, d.balanced.0);
      size = e.size;
      lent = e.lent;
    }

pub take_first-lower-requires : goal.take_first-lower-requires
take_first-lower-requires t c =
    let d = low-standing c.requires.ready c.requires.numbered in
    let e = c.take_apart-node.ensures in
    let fewer = apart-fewer _ _ _ (used_of c.args.pool.now) (used_of c.take_apart-node.new.self) _ _ d.trees.holds c.requires.numbered e.node e.shared e.last in
    (omega (arith, c.decreases, left-falls d.trees _ _ e.owned d.balanced), (left-removable d _ _ e.owned fewer e.size, omega (arith, c.if-node-eq0.false)))

pub balance-rest-requires : goal.balance-rest-requires
balance-rest-requires t c =
    let d = low-standing c.requires.ready c.requires.numbered in
    let e = c.take_apart-node.ensures in
    let fewer = apart-fewer _ _ _ (used_of c.args.pool.now) (used_of c.take_apart-node.new.self) _ _ d.trees.holds c.requires.numbered e.node e.shared e.last in
    let some : 0 < c.take_apart-node.result.left = omega (arith, c.if-node-eq0.false) in
    let used = c.take_first-lower.ensures.used _ (stood-left d.trees _ _ e.owned) in
    record {
      ready = rw c.under.ensures (rest-balanceable _ _ _ c.take_apart-node.result e.owned some _ c.take_first-lower.result.node _ c.take_first-lower.ensures.owned d);
      room = omega (arith, fewer, used, d.room, d.balanced.0, e.size, c.take_first-lower.ensures.size);
    }

pub returns : goal.returns
returns t c =
    let d = low-standing c.requires.ready c.requires.numbered in
    let e = c.take_apart-node.ensures in
    let fewer = apart-fewer _ _ _ (used_of c.args.pool.now) (used_of c.take_apart-node.new.self) _ _ d.trees.holds c.requires.numbered e.node e.shared e.last in
    let some : 0 < c.take_apart-node.result.left = omega (arith, c.if-node-eq0.false) in
    let used = c.take_first-lower.ensures.used _ (stood-left d.trees _ _ e.owned) in
    record {
      owned = first-lower _ _ _ c.take_apart-node.result e.owned some _ c.take_first-lower.result.node _ c.take_first-lower.ensures.owned _ _ (rw c.under.ensures at c.balance-rest.ensures.owned);
      used = λ u carries. omega (arith, fewer, used, standing-height d.trees u carries, left-lower d.trees d.balanced, c.balance-rest.ensures.made.used);
      size = c.balance-rest.ensures.made.size ∙ c.take_first-lower.ensures.size ∙ e.size;
      lent = c.balance-rest.ensures.made.lent ∙ c.take_first-lower.ensures.lent ∙ e.lent;
    }
