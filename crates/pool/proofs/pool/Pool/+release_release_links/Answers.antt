use Rattle.std.proofs.Common.{◌≡◌, ◌<◌, ◌≤◌, sym, refl, ap, ◌∙◌, arith}
use Rattle.std.proofs.lemmas.Bool.{ltb-false, ltb-true}
use Rattle.pool.specs.declared.node.Node.{Node}
use Rattle.pool.proofs.Nodes.{used-numbered, used-within}
use Rattle.pool.proofs.Pools.{gave-back-links, held-some, held-used, holds-nothing, released}
use Rattle.pool.proofs.pool.Pool.+release_release_links.Goals as goal

pub release-read-node-requires : goal.release-read-node-requires
release-read-node-requires t c =
    let n : 0 < c.args.n = omega arith in record { numbered = n; within = used-within _ _ (held-used _ _ _ _ c.requires.2 n) }

pub release-lower-requires : goal.release-lower-requires
release-lower-requires t c =
    let n : 0 < c.args.n = omega arith in
    let some = held-used _ _ _ _ c.requires.2 n in
    record { numbered = n; within = used-within _ _ some; some = some }

pub release-give_back-requires : goal.release-give_back-requires
release-give_back-requires t c =
    let n : 0 < c.args.n = omega arith in
    record { numbered = n; within = used-within _ _ (held-used _ _ _ _ c.requires.2 n); some = held-some _ _ _ _ c.requires.2 n }

pub release-release_links-requires : goal.release-release_links-requires
release-release_links-requires t c =
    let one : c.read-node.result.count ≤ 1 = ltb-false _ _ (sym c.is_shared.ensures ∙ c.if-is_shared.false) in
    let n : 0 < c.args.n = omega arith in
    let some = held-some _ _ _ _ c.requires.2 n in
    let g = gave-back-links _ _ _ c.give_back.ensures.memory c.give_back.ensures.free c.give_back.ensures.used _ c.read-node.ensures one _ _ n c.requires.2 in
    (omega (arith, c.decreases, c.give_back.ensures.used, some), (g.0, g.1, g.2, _, g.3))

pub release-returns-then-is_shared : goal.release-returns-then-is_shared
release-returns-then-is_shared t c =
    let many : 1 < c.read-node.result.count = ltb-true _ _ (sym c.is_shared.ensures ∙ c.if-is_shared.true) in
    record {
      owned = released _ _ _ c.lower.ensures.memory c.lower.ensures.free c.lower.ensures.used _ c.read-node.ensures many;
      fewer = omega (arith, c.lower.ensures.used);
      shared = λ k. c.lower.ensures.used;
      last = λ k. omega (arith, k, ap (λ (x : Node). x.count) c.read-node.ensures);
      size = c.lower.ensures.size;
      lent = c.lower.ensures.lent;
    }

pub release-returns-else-is_shared : goal.release-returns-else-is_shared
release-returns-else-is_shared t c =
    let one : c.read-node.result.count ≤ 1 = ltb-false _ _ (sym c.is_shared.ensures ∙ c.if-is_shared.false) in
    let n : 0 < c.args.n = omega arith in
    let less : c.release_links.new.self.used < c.args.self.now.used =
    omega (arith, c.give_back.ensures.used, c.release_links.ensures.fewer, held-some _ _ _ _ c.requires.2 n) in
    record {
      owned = λ u hs h.
          let g = gave-back-links _ _ _ c.give_back.ensures.memory c.give_back.ensures.free c.give_back.ensures.used _ c.read-node.ensures one u hs n h in
          c.release_links.ensures.owned _ _ _ hs g.3;
      fewer = omega arith;
      shared = λ k. omega (arith, k, ap (λ (x : Node). x.count) c.read-node.ensures);
      last = λ k. less;
      size = c.release_links.ensures.size ∙ c.give_back.ensures.size;
      lent = c.release_links.ensures.lent ∙ c.give_back.ensures.lent;
    }

pub release-returns-else-n-ne0 : goal.release-returns-else-n-ne0
release-returns-else-n-ne0 t c =
    let zero : c.args.n ≡ 0 = omega arith in
    record {
      owned = λ u hs h. holds-nothing _ _ u hs zero h;
      fewer = omega arith;
      shared = λ k. refl;
      last = λ k. omega (arith, zero, used-numbered c.args.self.now.nodes.now c.args.n (omega arith));
      size = refl;
      lent = refl;
    }
