use Rattle.std.proofs.Common.{rules, ◌≡◌, ◌+◌, ◌<◌, Less, Greater, sym, ◌∙◌, arith}
use Rattle.pool.specs.Sound.{used_of}
use Rattle.tree.proofs.Inserted.{appended-used, entry-sides, inserted-equal, inserted-greater, inserted-leaf, inserted-less, left-balanceable, left-insertable, low-fork, none-present, not_behind, old-first, present-side, right-balanceable, right-insertable, standing, whole-behind}
use Rattle.tree.proofs.Rotating.{apart-fewer, puts}
use Rattle.tree.proofs.Standing.{left-falls, right-falls, standing-height, stood-left, stood-right}
use Rattle.tree.specs.Insert.{compared}
use Rattle.tree.proofs.Sides.{worded}
use Rattle.tree.specs.Rebuild.{balance}
use Rattle.tree.proofs.inserting.+insert.Goals as goal

pub build-requires : goal.build-requires
build-requires g t c =
    let i = c.requires.ready in
    record {
      ready = record {
        nested = _;
        l = _;
        r = _;
        others = _;
        holds = entry-sides _ _ _ c.if-n-eq0.true _ _ _ c.entry.ensures i.t i.nested i.others i.holds;
        low_left = omega arith;
        low_right = omega arith;
      };
      room = omega (arith, i.room);
    }

pub returns-then-n-eq0 : goal.returns-then-n-eq0
returns-then-n-eq0 g t c =
    record {
      owned = inserted-leaf _ _ _ c.if-n-eq0.true _ _ _ c.entry.ensures (compared g.K.Key.key g.K.Ord.cmp c.args.key) _ _ c.build.ensures.owned;
      used = λ u carries. omega (arith, c.build.ensures.used);
      replaced = λ u carries there. absurd (none-present c.args.pool.now _ u _ c.if-n-eq0.true carries there);
      appended = λ u carries behind. omega (arith, c.build.ensures.used);
      fresh = c.build.ensures.fresh;
      size = c.build.ensures.size;
      lent = c.build.ensures.lent;
    }

pub take_apart-node-requires : goal.take_apart-node-requires
take_apart-node-requires g t c =
    let n : 0 < c.args.n = omega (arith, c.if-n-eq0.false) in
    record { held = (_, _, c.requires.ready.holds, omega (arith, c.requires.ready.few)); numbered = n }

pub insert-left-requires : goal.insert-left-requires
insert-left-requires g t c κs =
    let n : 0 < c.args.n = omega (arith, c.if-n-eq0.false) in
    let d = low-fork c.requires.ready n in
    let e = c.take_apart-node.ensures in
    let fewer = apart-fewer _ _ _ (used_of c.args.pool.now) (used_of c.take_apart-node.new.self) _ _ d.trees.holds n e.node e.shared e.last in
    λ live. (omega (arith, c.decreases, left-falls (standing d.trees) _ _ e.owned d.balanced), (live.0, (live.1, left-insertable d _ _ e.owned fewer e.size)))

pub insert-right-requires : goal.insert-right-requires
insert-right-requires g t c κs =
    let n : 0 < c.args.n = omega (arith, c.if-n-eq0.false) in
    let d = low-fork c.requires.ready n in
    let e = c.take_apart-node.ensures in
    let fewer = apart-fewer _ _ _ (used_of c.args.pool.now) (used_of c.take_apart-node.new.self) _ _ d.trees.holds n e.node e.shared e.last in
    λ live. (omega (arith, c.decreases, right-falls (standing d.trees) _ _ e.owned d.balanced), (live.0, (live.1, right-insertable d _ _ e.owned fewer e.size)))

pub balance-requires : goal.balance-requires
balance-requires g t c =
    let n : 0 < c.args.n = omega (arith, c.if-n-eq0.false) in
    let d = low-fork c.requires.ready n in
    let e = c.take_apart-node.ensures in
    let fewer = apart-fewer _ _ _ (used_of c.args.pool.now) (used_of c.take_apart-node.new.self) _ _ d.trees.holds n e.node e.shared e.last in
    let used = c.insert-left.ensures.used _ (stood-left (standing d.trees) _ _ e.owned) in
    record {
      ready = worded _ c.take_apart-node.result _ _ _ (left-balanceable d _ _ e.owned _ _ _ _ _ c.insert-left.ensures.owned);
      room = omega (arith, fewer, used, d.room, d.balanced.0, e.size, c.insert-left.ensures.size);
    }

pub balance-requires-in-Greater : goal.balance-requires-in-Greater
balance-requires-in-Greater g t c =
    let n : 0 < c.args.n = omega (arith, c.if-n-eq0.false) in
    let d = low-fork c.requires.ready n in
    let e = c.take_apart-node.ensures in
    let fewer = apart-fewer _ _ _ (used_of c.args.pool.now) (used_of c.take_apart-node.new.self) _ _ d.trees.holds n e.node e.shared e.last in
    let used = c.insert-right.ensures.used _ (stood-right (standing d.trees) _ _ e.owned) in
    record {
      ready = worded _ c.take_apart-node.result _ _ _ (right-balanceable d _ _ e.owned _ _ _ _ _ c.insert-right.ensures.owned);
      room = omega (arith, fewer, used, d.room, d.balanced.0, e.size, c.insert-right.ensures.size);
    }

pub replace-requires : goal.replace-requires
replace-requires g t c =
    let n : 0 < c.args.n = omega (arith, c.if-n-eq0.false) in
    let d = low-fork c.requires.ready n in
    let e = c.take_apart-node.ensures in
    let fewer = apart-fewer _ _ _ (used_of c.args.pool.now) (used_of c.take_apart-node.new.self) _ _ d.trees.holds n e.node e.shared e.last in
    record { held = (_, _, _, _, _, old-first d.trees _ _ e.owned); room = omega (arith, fewer, d.room, e.size) }

pub returns-in-Less : goal.returns-in-Less
returns-in-Less g t c =
    let n : 0 < c.args.n = omega (arith, c.if-n-eq0.false) in
    let d = low-fork c.requires.ready n in
    let e = c.take_apart-node.ensures in
    let fewer = apart-fewer _ _ _ (used_of c.args.pool.now) (used_of c.take_apart-node.new.self) _ _ d.trees.holds n e.node e.shared e.last in
    let used = c.insert-left.ensures.used _ (stood-left (standing d.trees) _ _ e.owned) in
    let less = sym c.in-Less.ensures in
    record {
      owned = inserted-less _ _ _ _ _ c.take_apart-node.result _ _ n e.owned _ _ _ _ less c.insert-left.ensures.owned (puts balance _ _ c.take_apart-node.result _ _ _ _ c.balance.ensures.owned (search rules));
      used = λ u carries. omega (arith, standing-height (standing d.trees) u carries, d.balanced.0, fewer, used, c.balance.ensures.made.used);
      replaced = λ u carries there.
          let place = compared g.K.Key.key g.K.Ord.cmp c.args.key in
          let side = c.insert-left.ensures.replaced _ (stood-left (standing d.trees) _ _ e.owned) (present-side d.trees _ _ e.owned u carries place Less less there) in
          omega (arith, standing-height (standing d.trees) u carries, d.balanced.0, fewer, side, c.balance.ensures.made.used);
      appended = λ u carries behind.
          let place = compared g.K.Key.key g.K.Ord.cmp c.args.key in
          absurd (not_behind d.trees _ _ e.owned place less (whole-behind d.trees u carries place behind).0);
      fresh = c.balance.ensures.made.fresh;
      size = c.balance.ensures.made.size ∙ c.insert-left.ensures.size ∙ e.size;
      lent = c.balance.ensures.made.lent ∙ c.insert-left.ensures.lent ∙ e.lent;
    }

pub returns-in-Equal : goal.returns-in-Equal
returns-in-Equal g t c =
    let n : 0 < c.args.n = omega (arith, c.if-n-eq0.false) in
    let d = low-fork c.requires.ready n in
    let e = c.take_apart-node.ensures in
    let fewer = apart-fewer _ _ _ (used_of c.args.pool.now) (used_of c.take_apart-node.new.self) _ _ d.trees.holds n e.node e.shared e.last in
    let equal = sym c.in-Equal.ensures in
    record {
      owned = inserted-equal _ _ _ _ _ c.take_apart-node.result _ _ n e.owned _ _ equal c.replace.ensures.owned;
      used = λ u carries. omega (arith, fewer, c.replace.ensures.made.used);
      replaced = λ u carries there. omega (arith, standing-height (standing d.trees) u carries, d.balanced.0, fewer, c.replace.ensures.made.used);
      appended = λ u carries behind. omega (arith, fewer, c.replace.ensures.made.used);
      fresh = c.replace.ensures.made.fresh;
      size = c.replace.ensures.made.size ∙ e.size;
      lent = c.replace.ensures.made.lent ∙ e.lent;
    }

pub returns-in-Greater : goal.returns-in-Greater
returns-in-Greater g t c =
    let n : 0 < c.args.n = omega (arith, c.if-n-eq0.false) in
    let d = low-fork c.requires.ready n in
    let e = c.take_apart-node.ensures in
    let fewer = apart-fewer _ _ _ (used_of c.args.pool.now) (used_of c.take_apart-node.new.self) _ _ d.trees.holds n e.node e.shared e.last in
    let carried = stood-right (standing d.trees) _ _ e.owned in
    let used = c.insert-right.ensures.used _ carried in
    let place = compared g.K.Key.key g.K.Ord.cmp c.args.key in
    let greater = sym c.in-Greater.ensures in
    record {
      owned = inserted-greater _ _ _ _ _ c.take_apart-node.result _ _ n e.owned _ _ _ _ greater c.insert-right.ensures.owned (puts balance _ _ c.take_apart-node.result _ _ _ _ c.balance-in-Greater.ensures.owned (search rules));
      used = λ u carries. omega (arith, standing-height (standing d.trees) u carries, d.balanced.0, fewer, used, c.balance-in-Greater.ensures.made.used);
      replaced = λ u carries there.
          let side = c.insert-right.ensures.replaced _ carried (present-side d.trees _ _ e.owned u carries place Greater greater there) in
          omega (arith, standing-height (standing d.trees) u carries, d.balanced.0, fewer, side, c.balance-in-Greater.ensures.made.used);
      appended = λ u carries behind.
          let after = whole-behind d.trees u carries place behind in
          let side = c.insert-right.ensures.appended _ carried after.1 in
          let one : used_of c.balance-in-Greater.new.pool ≡ used_of c.insert-right.new.pool + 1 =
          appended-used d _ _ e.owned place (g.K.Key.words c.args.key) (g.V.Value.word c.args.value) c.insert-right.new.pool c.balance-in-Greater.new.pool c.insert-right.result c.insert-right.ensures.owned after.1 c.insert-right.ensures.fresh c.balance-in-Greater.ensures.level c.balance-in-Greater.ensures.single in
          omega (arith, standing-height (standing d.trees) u carries, d.balanced.0, fewer, side, one);
      fresh = c.balance-in-Greater.ensures.made.fresh;
      size = c.balance-in-Greater.ensures.made.size ∙ c.insert-right.ensures.size ∙ e.size;
      lent = c.balance-in-Greater.ensures.made.lent ∙ c.insert-right.ensures.lent ∙ e.lent;
    }
