-- A pool holds its owners' trees in one way: the invariant has at most one proof, so that a truncated one can be used.
use mathlib.Core.HLevel.{is_prop→PathP, Π_prop}
use Rattle.std.proofs.Common.{◌≡◌, ℕ, ◌+◌, ◌<◌, ◌≤◌, List, [], ◌∷◌, map, length, sym, refl, ap, ◌∙◌, subst, arith}
use native.Mathlib.Bridge.{le_prop}
use native.Mathlib.Nat.{ℕ_set}
use lib.IntN.{ℤ_set}
use Rattle.pool.proofs.Trees.{linked-unique}
use Rattle.pool.specs.FreeList.{Chain, idle}
use Rattle.pool.specs.Held.{Carried, Held, Holds, node_of}
use Rattle.pool.specs.Node.{free_node, node_at}
use Rattle.pool.specs.Owners.{times}
use Rattle.pool.specs.Sound.{SoundIn}
use Rattle.pool.specs.Tree.{Linked, Tree, fork, leaf}
use Rattle.pool.specs.declared.node.Node.{Node}
use Rattle.pool.specs.declared.node.Words.{Words}
use Rattle.pool.specs.declared.pool.Pool.{Pool}

words-set : IsSet Words
words-set x y p q = λ i j. record {
  high = ℕ_set x.high y.high (ap (λ (w : Words). w.high) p) (ap (λ (w : Words). w.high) q) i j;
  low = ℕ_set x.low y.low (ap (λ (w : Words). w.low) p) (ap (λ (w : Words). w.low) q) i j;
}

node-set : IsSet Node
node-set x y p q = λ i j. record {
  key = words-set x.key y.key (ap (λ (n : Node). n.key) p) (ap (λ (n : Node). n.key) q) i j;
  word = ℤ_set x.word y.word (ap (λ (n : Node). n.word) p) (ap (λ (n : Node). n.word) q) i j;
  left = ℕ_set x.left y.left (ap (λ (n : Node). n.left) p) (ap (λ (n : Node). n.left) q) i j;
  right = ℕ_set x.right y.right (ap (λ (n : Node). n.right) p) (ap (λ (n : Node). n.right) q) i j;
  nested = ℕ_set x.nested y.nested (ap (λ (n : Node). n.nested) p) (ap (λ (n : Node). n.nested) q) i j;
  height = ℕ_set x.height y.height (ap (λ (n : Node). n.height) p) (ap (λ (n : Node). n.height) q) i j;
  count = ℕ_set x.count y.count (ap (λ (n : Node). n.count) p) (ap (λ (n : Node). n.count) q) i j;
}

-- something that is there at most once, with a fact that has at most one proof
pub once : {A : Type 0} {B : A → Type 0} → ((x : A) → IsProp (B x)) → ((x y : A) → B x → B y → x ≡ y) → IsProp ((x : A) × B x)
once {A} {B} fact same u v =
    let e : u.0 ≡ v.0 = same u.0 v.0 u.1 v.1 in
    λ i. (e i, is_prop→PathP (λ j. B (e j)) (λ j. fact (e j)) u.1 v.1 i)

pub linked-prop : (mem : List Node) (n : ℕ) (t : Tree) → IsProp (Linked mem n t)
linked-prop mem n leaf p q = ℕ_set n 0 p q
linked-prop mem n (fork key word tall nested left right) p q = λ i. (
  le_prop p.0 q.0 i,
  words-set _ _ p.1 q.1 i,
  ℤ_set _ _ p.2 q.2 i,
  ℕ_set _ _ p.3 q.3 i,
  linked-prop mem (node_at mem n).nested nested p.4 q.4 i,
  linked-prop mem (node_at mem n).left left p.5 q.5 i,
  linked-prop mem (node_at mem n).right right p.6 q.6 i,
)

grown-prop : (mem : List Node) (n : ℕ) → IsProp ((t : Tree) × Linked mem n t)
grown-prop mem n = once (linked-prop mem n) (λ t u p q. linked-unique mem n t u p q)

next-same : (mem : List Node) (n a b : ℕ) → node_at mem n ≡ free_node a → node_at mem n ≡ free_node b → a ≡ b
next-same mem n a b p q = ap (λ (x : Node). x.key.low) (sym p ∙ q)

chain-prop : (mem : List Node) (first : ℕ) (ns : List ℕ) → IsProp (Chain mem first ns)
chain-prop mem first [] p q = ℕ_set first 0 p q
chain-prop mem first (n ∷ ns) p q =
    let rest : IsProp ((next : ℕ) × (node_at mem n ≡ free_node next) × Chain mem next ns) = λ u v.
    let e : u.0 ≡ v.0 = next-same mem n u.0 v.0 u.1 v.1 in
    λ i. (e i, is_prop→PathP (λ j. node_at mem n ≡ free_node (e j)) (λ j. node-set _ _) u.1 v.1 i, is_prop→PathP (λ j. Chain mem (e j) ns) (λ j. chain-prop mem (e j) ns) u.2 v.2 i) in
    λ i. (ℕ_set first n p.0 q.0 i, le_prop p.1 q.1 i, le_prop p.2 q.2 i, rest p.3 q.3 i)

chain_same : (mem : List Node) (first : ℕ) (ns ms : List ℕ) → Chain mem first ns → Chain mem first ms → ns ≡ ms
chain_same mem first [] [] p q = refl
chain_same mem first [] (m ∷ ms) p q = absurd (omega (arith, p, q.0, q.1))
chain_same mem first (n ∷ ns) [] p q = absurd (omega (arith, q, p.0, p.1))
chain_same mem first (n ∷ ns) (m ∷ ms) p q =
    let e : n ≡ m = sym p.0 ∙ q.0 in
    let there = subst (λ (k : ℕ). (next : ℕ) × (node_at mem k ≡ free_node next) × Chain mem next ms) (sym e) q.3 in
    let f : p.3.0 ≡ there.0 = next-same mem n p.3.0 there.0 p.3.1 there.1 in
    let g : ns ≡ ms = chain_same mem p.3.0 ns ms p.3.2 (subst (λ (k : ℕ). Chain mem k ms) (sym f) there.2) in
    λ i. e i ∷ g i

pub sound_prop : (mem : List Node) (free used : ℕ) (roots : List ℕ) → IsProp (SoundIn mem free used roots)
sound_prop mem free used roots s t =
    let e : s.chain ≡ t.chain = chain_same mem free s.chain t.chain s.chained t.chained in
    λ i. record {
      counted = Π_prop (λ n. Π_prop (λ h. ℕ_set _ _)) s.counted t.counted i;
      grown = Π_prop (λ n. Π_prop (λ h. grown-prop mem n)) s.grown t.grown i;
      chain = e i;
      chained = is_prop→PathP (λ j. Chain mem free (e j)) (λ j. chain-prop mem free (e j)) s.chained t.chained i;
      listed = is_prop→PathP (λ j. (n : ℕ) → 0 < n → n ≤ length mem → times n (e j) ≡ idle (node_at mem n)) (λ j. Π_prop (λ n. Π_prop (λ h. Π_prop (λ k. ℕ_set _ _)))) s.listed t.listed i;
      spare = is_prop→PathP (λ j. used + length (e j) ≡ length mem) (λ j. ℕ_set _ _) s.spare t.spare i;
      small = le_prop s.small t.small i;
      tallied = ℕ_set _ _ s.tallied t.tallied i;
    }

carried-prop : (mem : List Node) (hs : List Held) → IsProp (Carried mem hs)
carried-prop mem [] p q = refl
carried-prop mem (h ∷ hs) p q = λ i. (linked-prop mem h.node h.tree p.0 q.0 i, carried-prop mem hs p.1 q.1 i)

pub holds_prop : (p : Pool) (hs : List Held) → IsProp (Holds p hs)
unfolding Holds
holds_prop p hs u v = λ i. record {
  sound = sound_prop p.nodes.now p.free p.used (map node_of hs) u.sound v.sound i;
  carried = carried-prop p.nodes.now hs u.carried v.carried i;
}
