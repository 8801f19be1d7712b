-- Making every node free, from the last to the first.
use Rattle.std.proofs.Common.{◌≡◌, ℕ, ◌+◌, ◌-◌, ◌*◌, ◌<◌, ◌≤◌, List, [], ◌∷◌, length, get_or, set, sum_by, sym, refl, ap, ◌∙◌, subst, inl, inr, arith, length-set}
use Rattle.std.proofs.ByRecursion.{All-from_get_or, sum_by_le}
use Rattle.std.proofs.lemmas.Bool.{cases_eq, cases_lt}
use Rattle.pool.proofs.FreeList.{busy-free, chain-free, chain-kept, idle-free}
use Rattle.pool.proofs.Nodes.{node_at_lem, node-past, node-written, node-zero}
use Rattle.pool.proofs.Owners.{no-links, same-other, same_self}
use Rattle.pool.specs.FreeList.{FreePast, busy}
use Rattle.pool.specs.Held.{HoldsIn}
use Rattle.pool.specs.Node.{free_node, node_at}
use Rattle.pool.specs.Owners.{links, same, times}
use Rattle.pool.specs.declared.node.Node.{Node}

pub free-none : (mem : List Node) → FreePast mem 0 (length mem)
free-none mem = record { chain = []; chained = refl; past = λ n h k. absurd (omega arith); upto = λ n h. refl; spare = omega arith }

pub free_more : (mem : List Node) (first i : ℕ) → 0 < i → FreePast mem first i → FreePast (set mem (i - 1) (free_node first)) i (i - 1)
free_more mem first i h f =
    let k : i ≤ length mem = omega (arith, f.spare) in
    let x : Node = free_node first in
    record {
      chain = i ∷ f.chain;
      chained = (
        refl,
        h,
        omega (arith, length-set mem (i - 1) x),
        (first, node-written mem i x h k, chain-kept mem i x h first f.chain (f.upto i (omega arith)) f.chained),
      );
      past = λ n p q.
          elim (cases_eq n i) [
            | inl e ↦ subst (λ (m : ℕ). same m i + times m f.chain ≡ 1) (sym e) (omega (arith, same_self i, f.upto i (omega arith)))
            | inr ne ↦ omega (arith, same-other n i ne, f.past n (omega (arith, ne)) (rw length-set at q))
          ];
      upto = λ n p. omega (arith, same-other n i (λ e. omega arith), f.upto n (omega arith));
      spare = omega (arith, f.spare, length-set mem (i - 1) x);
    }

-- a sum over nodes that are all free
pub sum-free : (mem : List Node) (f : Node → ℕ) → ((next : ℕ) → f (free_node next) ≡ 0)
    → ((n : ℕ) → 0 < n → n ≤ length mem → (next : ℕ) × (node_at mem n ≡ free_node next)) → sum_by f mem ≡ 0
sum-free mem f z vacant =
    let each : sum_by f mem ≤ length mem * 0 = sum_by_le f 0 mem (All-from_get_or (λ x. f x ≤ 0) mem (free_node 0) (λ i h.
    let v = vacant (i + 1) (omega arith) (omega arith) in
    let j : i + 1 - 1 ≡ i = omega arith in
    let e : get_or mem i (free_node 0) ≡ free_node v.0 =
    ap (λ (k : ℕ). get_or mem k (free_node 0)) (sym j) ∙ sym (node_at_lem mem (i + 1) (omega arith)) ∙ v.1 in
    omega (arith, ap f e, z v.0))) in
    omega arith

pub free_all : (mem : List Node) (first : ℕ) → length mem ≤ 65535 → FreePast mem first 0 → HoldsIn mem first 0 []
free_all mem first few f =
    let vacant : (n : ℕ) → 0 < n → n ≤ length mem → (next : ℕ) × (node_at mem n ≡ free_node next) = λ n h k.
    chain-free mem first f.chain f.chained n (omega (arith, f.past n h k)) in
    let none : (n : ℕ) → (node_at mem n).count ≡ 0 = λ n.
    elim (cases_eq n 0) [
      | inl e ↦ ap (λ (m : ℕ). (node_at mem m).count) e ∙ node-zero mem
      | inr ne ↦ elim (cases_lt (length mem) n) [
        | inl past ↦ ap (λ (x : Node). x.count) (node-past mem n past)
        | inr within ↦ ap (λ (x : Node). x.count) (vacant n (omega (arith, ne)) within).1
      ]
    ] in
    record {
      sound = record {
        counted = λ n h. omega (arith, none n, sum-free mem (links n) (λ next. no-links n next h) vacant);
        grown = λ n h. absurd (omega (arith, none n));
        chain = f.chain;
        chained = f.chained;
        listed = λ n h k. f.past n h k ∙ sym (idle-free (node_at mem n) (none n));
        spare = f.spare;
        small = few;
        tallied = sym (sum-free mem busy (λ next. busy-free (free_node next) refl) vacant);
      };
      carried = tt;
    }
