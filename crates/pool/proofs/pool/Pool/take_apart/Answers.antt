use Rattle.std.proofs.Common.{◌<◌, ◌≤◌, sym, ◌∙◌, arith}
use Rattle.std.proofs.lemmas.Bool.{ltb-false, ltb-true}
use Rattle.pool.proofs.Nodes.{used-within}
use Rattle.pool.proofs.Pools.{gave-back, held-fork, held-some, held-used, released, released-links, taken-apart}
use Rattle.pool.proofs.Reorder.{holds-swapped}
use Rattle.pool.proofs.pool.Pool.take_apart.Goals as goal

pub read-node-requires : goal.read-node-requires
read-node-requires c =
    record { numbered = c.requires.numbered; within = used-within _ _ (held-used _ _ _ _ c.requires.held.2 c.requires.numbered) }

pub give_back-requires : goal.give_back-requires
give_back-requires c =
    record {
      numbered = c.requires.numbered;
      within = used-within _ _ (held-used _ _ _ _ c.requires.held.2 c.requires.numbered);
      some = held-some _ _ _ _ c.requires.held.2 c.requires.numbered;
    }

pub lower-requires : goal.lower-requires
lower-requires c =
    let some = held-used _ _ _ _ c.requires.held.2 c.requires.numbered in
    record { numbered = c.requires.numbered; within = used-within _ _ some; some = some }

pub retain_links-requires : goal.retain_links-requires
retain_links-requires c =
    let e = c.lower.ensures in
    let f = held-fork _ _ _ _ c.requires.numbered c.requires.held.2 in
    let many : 1 < c.read-node.result.count = ltb-true _ _ (sym c.is_shared.ensures ∙ c.if-is_shared.true) in (
      f.0,
      f.1,
      f.2,
      c.requires.held.1,
      released _ _ _ e.memory e.free e.used _ c.read-node.ensures many _ _ f.3,
      released-links c.args.self.now c.lower.new.self _ e.memory e.free e.used _ c.read-node.ensures many _ _ _ f.0 f.1 f.2 _ f.3,
      c.requires.held.3,
    )

pub returns-then-is_shared : goal.returns-then-is_shared
returns-then-is_shared c =
    let e = c.lower.ensures in
    let many : 1 < c.read-node.result.count = ltb-true _ _ (sym c.is_shared.ensures ∙ c.if-is_shared.true) in
    record {
      node = c.read-node.ensures;
      owned = λ key word height nested left right hs h.
          taken-apart _ _ _ _ c.read-node.ensures key word height nested left right hs h
          (holds-swapped _ _ _ _ (c.retain_links.ensures.owned nested left right hs (released _ _ _ e.memory e.free e.used _ c.read-node.ensures many _ _ h)
          (released-links c.args.self.now c.lower.new.self _ e.memory e.free e.used _ c.read-node.ensures many key word height nested left right hs h)));
      shared = λ k. c.retain_links.ensures.used ∙ e.used;
      last = λ k. omega arith;
      size = c.retain_links.ensures.size ∙ e.size;
      lent = c.retain_links.ensures.lent ∙ e.lent;
    }

pub returns-else-is_shared : goal.returns-else-is_shared
returns-else-is_shared c =
    let e = c.give_back.ensures in
    let one : c.read-node.result.count ≤ 1 = ltb-false _ _ (sym c.is_shared.ensures ∙ c.if-is_shared.false) in
    record {
      node = c.read-node.ensures;
      owned = λ key word height nested left right hs h.
          taken-apart _ _ _ _ c.read-node.ensures key word height nested left right hs h
          (gave-back _ _ _ e.memory e.free e.used _ c.read-node.ensures one key word height nested left right hs h);
      shared = λ k. omega arith;
      last = λ k. omega (arith, e.used, held-some _ _ _ _ c.requires.held.2 c.requires.numbered);
      size = e.size;
      lent = e.lent;
    }
