use Rattle.std.proofs.Common.{rules, ◌∙◌, arith}
use Rattle.pool.specs.Sound.{used_of}
use Rattle.tree.proofs.Rotating.{apart-fewer, lower-sides, middle-first, middle-numbered, new-sides, puts, rotated-double, three, upper-sides}
use Rattle.tree.specs.Rebuild.{node}
use Rattle.tree.proofs.rebuild.rotate_double.Goals as goal

pub take_apart-root-requires : goal.take_apart-root-requires
take_apart-root-requires c =
    let d = three c.requires.ready in record { held = (_, _, middle-first d, omega (arith, c.requires.ready.few)); numbered = middle-numbered d }

pub build-left-requires : goal.build-left-requires
build-left-requires c =
    let d = three c.requires.ready in
    let e = c.take_apart-root.ensures in
    let fewer = apart-fewer _ _ _ (used_of c.args.pool.now) (used_of c.take_apart-root.new.self) _ _ (middle-first d) (middle-numbered d) e.node e.shared e.last in
    record {
      ready = record {
        nested = _;
        l = _;
        r = _;
        others = _;
        holds = lower-sides d _ _ e.owned;
        low_left = omega (arith, c.requires.ready.low_left);
        low_right = omega (arith, c.requires.ready.low_before);
      };
      room = omega (arith, e.size);
    }

pub build-right-requires : goal.build-right-requires
build-right-requires c =
    let d = three c.requires.ready in
    let e = c.take_apart-root.ensures in
    let fewer = apart-fewer _ _ _ (used_of c.args.pool.now) (used_of c.take_apart-root.new.self) _ _ (middle-first d) (middle-numbered d) e.node e.shared e.last in
    record {
      ready = record {
        nested = _;
        l = _;
        r = _;
        others = _;
        holds = upper-sides d _ _ e.owned _ _ (puts node _ _ c.args.lower _ _ _ _ c.build-left.ensures.owned (search rules));
        low_left = omega (arith, c.requires.ready.low_behind);
        low_right = omega (arith, c.requires.ready.low_right);
      };
      room = omega (arith, e.size, c.build-left.ensures.used, c.build-left.ensures.size);
    }

pub build-requires : goal.build-requires
build-requires c =
    let d = three c.requires.ready in
    let e = c.take_apart-root.ensures in
    let fewer = apart-fewer _ _ _ (used_of c.args.pool.now) (used_of c.take_apart-root.new.self) _ _ (middle-first d) (middle-numbered d) e.node e.shared e.last in
    record {
      ready = record {
        nested = _;
        l = _;
        r = _;
        others = _;
        holds = new-sides d _ _ e.owned _ _ (puts node _ _ c.args.lower _ _ _ _ c.build-left.ensures.owned (search rules)) _ _ (puts node _ _ c.args.upper _ _ _ _ c.build-right.ensures.owned (search rules));
        low_left = omega (arith, c.requires.ready.low_left, c.requires.ready.low_before);
        low_right = omega (arith, c.requires.ready.low_right, c.requires.ready.low_behind);
      };
      room = omega (arith, e.size, c.build-left.ensures.used, c.build-left.ensures.size, c.build-right.ensures.used, c.build-right.ensures.size);
    }

pub returns : goal.returns
returns c =
    let d = three c.requires.ready in
    let e = c.take_apart-root.ensures in
    let fewer = apart-fewer _ _ _ (used_of c.args.pool.now) (used_of c.take_apart-root.new.self) _ _ (middle-first d) (middle-numbered d) e.node e.shared e.last in
    record {
      owned = rotated-double _ _ _ _ _ c.args.lower c.args.upper c.take_apart-root.result _ _ _ _ _ _ (middle-numbered d) e.owned (puts node _ _ c.args.lower _ _ _ _ c.build-left.ensures.owned (search rules)) (puts node _ _ c.args.upper _ _ _ _ c.build-right.ensures.owned (search rules)) (puts node _ _ c.take_apart-root.result _ _ _ _ c.build.ensures.owned (search rules));
      made = record { used = omega (arith, c.build-left.ensures.used, c.build-right.ensures.used, c.build.ensures.used); fresh = c.build.ensures.fresh; size = c.build.ensures.size ∙ c.build-right.ensures.size ∙ c.build-left.ensures.size ∙ e.size; lent = c.build.ensures.lent ∙ c.build-right.ensures.lent ∙ c.build-left.ensures.lent ∙ e.lent };
    }
