use Rattle.std.proofs.Common.{◌∷◌, arith, rules}
use Rattle.pool.specs.Held.{held}
use Rattle.pool.proofs.pool.Pool.retain_links.Goals as goal

pub retain-requires-2 : goal.retain-requires-2
retain-requires-2 c =
    record {
      held = (
        held c.args.node.right c.requires.2 ∷ c.requires.3,
        c.retain.ensures.owned _ _ c.requires.4 c.requires.5.by_right,
        omega arith,
      );
      carried = search rules;
    }

pub retain-requires-3 : goal.retain-requires-3
retain-requires-3 c =
    record {
      held = (
        held c.args.node.left c.requires.1 ∷ held c.args.node.right c.requires.2 ∷ c.requires.3,
        c.retain-2.ensures.owned _ _ (c.retain.ensures.owned _ _ c.requires.4 c.requires.5.by_right) (c.retain.ensures.kept _ _ c.requires.5.by_left),
        omega arith,
      );
      carried = search rules;
    }
