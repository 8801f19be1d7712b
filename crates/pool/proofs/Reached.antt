-- In a sound pool the nodes in use are those that an outside owner reaches.
use Rattle.std.proofs.Common.{◌≡◌, ℕ, zero, suc, ◌+◌, ◌-◌, ◌<◌, ◌≤◌, List, [], ◌∷◌, length, get_or, sum_by, refl, ap, ◌∙◌, subst, inl, inr, arith}
use Rattle.std.proofs.lemmas.List.Sums.{sum_by-cons}
use Rattle.std.proofs.lemmas.Bool.{cases_eq}
use Rattle.std.specs.List.{AllByRecursion}
use Rattle.pool.proofs.FreeList.{busy-free, chain-free, idle-free, idle-used}
use Rattle.pool.proofs.Freeing.{sum-free}
use Rattle.pool.proofs.Nodes.{node_at_lem, node-free, node-le-sum, used-numbered, used-within}
use Rattle.pool.proofs.Owners.{no-links, same-other, same_self}
use Rattle.pool.proofs.Trees.{linked-agrees, linked-unique}
use Rattle.pool.specs.FreeList.{busy}
use Rattle.pool.specs.Node.{free_node, node_at, with_count}
use Rattle.pool.specs.Owners.{links, times}
use Rattle.pool.specs.Reached.{AccountedIn, Reached, linked, owned}
use Rattle.pool.specs.Sound.{SoundIn}
use Rattle.pool.specs.Tree.{Linked, Tree, fork, leaf}
use Rattle.pool.specs.declared.node.Node.{Node}

-- two memories that agree on what is reached carry the same trees there
pub reached-agrees : (mem after : List Node) (roots : List ℕ)
    → ((m : ℕ) → 0 < m → Reached mem roots m → with_count (node_at mem m) 0 ≡ with_count (node_at after m) 0)
    → (n : ℕ) (t : Tree) → Reached mem roots n → Linked mem n t → Linked after n t
reached-agrees mem after roots agree =
    linked-agrees mem after (Reached mem roots) (λ m h r.
    let x : Node = node_at mem m in (
      agree m h r,
      linked m x.nested r (omega (arith, same_self x.nested)),
      linked m x.left r (omega (arith, same_self x.left)),
      linked m x.right r (omega (arith, same_self x.right)),
    ))

-- the number of forks
abbrev size : Tree → ℕ
size leaf = 0
size (fork key word height nested left right) = 1 + size nested + size left + size right

-- the tree of an owner is larger
owner-larger : (mem : List Node) (n m : ℕ) (t u : Tree) → 0 < links n (node_at mem m) → 0 < m → Linked mem n t → Linked mem m u → size t < size u
owner-larger mem n m t leaf l h p q = absurd (omega (arith, q))
owner-larger mem n m t (fork key word height a b c) l h p q =
    let x : Node = node_at mem m in
    let same_size : (i : ℕ) (v : Tree) → n ≡ i → Linked mem i v → size t ≡ size v = λ i v e r.
    ap size (linked-unique mem i t v (subst (λ (k : ℕ). Linked mem k t) e p) r) in
    elim (cases_eq n x.nested) [
      | inl e ↦ omega (arith, same_size x.nested a e q.4)
      | inr ne ↦ elim (cases_eq n x.left) [
        | inl e ↦ omega (arith, same_size x.left b e q.5)
        | inr nf ↦ elim (cases_eq n x.right) [
          | inl e ↦ omega (arith, same_size x.right c e q.6)
          | inr ng ↦ absurd (omega (arith, l, same-other n x.nested ne, same-other n x.left nf, same-other n x.right ng))
        ]
      ]
    ]

sum-positive : (f : Node → ℕ) (mem : List Node) → 0 < sum_by f mem → (i : ℕ) × (i < length mem) × (0 < f (get_or mem i (free_node 0)))
sum-positive f [] h = absurd (omega arith)
sum-positive f (x ∷ mem) h =
    elim (cases_eq (f x) 0) [
      | inl z ↦
          let r = sum-positive f mem (omega (arith, sum_by-cons f x mem, h, z)) in
          (suc r.0, omega (arith, r.1), r.2)
      | inr ne ↦ (0, omega arith, omega (arith, ne))
    ]

module _ (mem : List Node) (free used : ℕ) (roots : List ℕ) (s : SoundIn mem free used roots) where
  -- a node with count 0 is free
  pub free-node : (n : ℕ) → 0 < n → n ≤ length mem → (node_at mem n).count ≡ 0 → (next : ℕ) × (node_at mem n ≡ free_node next)
  free-node n h k z = chain-free mem free s.chain s.chained n (omega (arith, s.listed n h k, idle-free (node_at mem n) z))

  -- a node with a link is in use
  owner-used : (n m : ℕ) → 0 < n → 0 < m → m ≤ length mem → 0 < links n (node_at mem m) → 0 < (node_at mem m).count
  owner-used n m h k w l =
      elim (cases_eq (node_at mem m).count 0) [
        | inl z ↦ let f = free-node m k w z in absurd (omega (arith, l, ap (links n) f.1, no-links n f.0 h))
        | inr ne ↦ omega (arith, ne)
      ]

  -- the trees of the first k nodes have a largest size
  bounded : (k : ℕ) → (b : ℕ) × ((n : ℕ) (t : Tree) → n ≤ k → 0 < (node_at mem n).count → Linked mem n t → size t ≤ b)
  bounded zero = (0, λ n t h p l. absurd (omega (arith, h, used-numbered mem n p)))
  bounded (suc k) =
      let r = bounded k in
      elim (cases_eq (node_at mem (suc k)).count 0) [
        | inl z ↦ (
          r.0,
          λ n t h p l. elim (cases_eq n (suc k)) [
            | inl e ↦ absurd (omega (arith, p, z, ap (λ (i : ℕ). (node_at mem i).count) e))
            | inr ne ↦ r.1 n t (omega (arith, h, ne)) p l
          ],
        )
        | inr pos ↦
            let g = s.grown (suc k) (omega (arith, pos)) in (
              r.0 + size g.0,
              λ n t h p l. elim (cases_eq n (suc k)) [
                | inl e ↦ omega (arith, ap size (linked-unique mem (suc k) t g.0 (subst (λ (i : ℕ). Linked mem i t) e l) g.1))
                | inr ne ↦ omega (arith, r.1 n t (omega (arith, h, ne)) p l)
              ],
            )
      ]

  -- from a node to an owner, and on, until an outside owner is met
  climb : (b : ℕ) → ((n : ℕ) (t : Tree) → n ≤ length mem → 0 < (node_at mem n).count → Linked mem n t → size t ≤ b)
      → (steps n : ℕ) (t : Tree) → 0 < (node_at mem n).count → Linked mem n t → b < steps + size t → Reached mem roots n
  climb b most zero n t p l room = absurd (omega (arith, room, most n t (used-within mem n p) p l))
  climb b most (suc steps) n t p l room =
      let h : 0 < n = used-numbered mem n p in
      elim (cases_eq (times n roots) 0) [
        | inl z ↦
            let r = sum-positive (links n) mem (omega (arith, s.counted n h, p, z)) in
            let m : ℕ = suc r.0 in
            let at : node_at mem m ≡ get_or mem r.0 (free_node 0) =
            node_at_lem mem m (omega arith) ∙ ap (λ (i : ℕ). get_or mem i (free_node 0)) (let e : suc r.0 - 1 ≡ r.0 = omega arith in e) in
            let k : 0 < links n (node_at mem m) = omega (arith, r.2, ap (links n) at) in
            let q : 0 < (node_at mem m).count = owner-used n m h (omega arith) (omega (arith, r.1)) k in
            let g = s.grown m q in
            let larger : size t < size g.0 = owner-larger mem n m t g.0 k (omega arith) l g.1 in
            linked m n (climb b most steps m g.0 q g.1 (omega (arith, room, larger))) k
        | inr ne ↦ owned n (omega (arith, ne))
      ]

  pub used-reached : (n : ℕ) → 0 < (node_at mem n).count → Reached mem roots n
  used-reached n p =
      let b = bounded (length mem) in
      let g = s.grown n p in
      climb b.0 b.1 (suc b.0) n g.0 p g.1 (omega arith)

  pub reached-used : (n : ℕ) → 0 < n → Reached mem roots n → 0 < (node_at mem n).count
  reached-used n h (owned i o) = omega (arith, s.counted i h, o)
  reached-used n h (linked m i r l) = omega (arith, s.counted i h, l, node-le-sum (links i) mem m (no-links i 0 h))

  -- without an outside owner no node is reached
  unreached : ((n : ℕ) → 0 < n → times n roots ≡ 0) → (n : ℕ) → 0 < n → Reached mem roots n → ⊥
  unreached none n h (owned i o) = omega (arith, o, none i h)
  unreached none n h (linked m i r l) =
      elim (cases_eq m 0) [
        | inl z ↦ omega (arith, l, ap (λ (k : ℕ). links i (node_at mem k)) z, ap (links i) (node-free mem), no-links i 0 h)
        | inr ne ↦ unreached none m (omega (arith, ne)) r
      ]

  pub none-used : ((n : ℕ) → 0 < n → times n roots ≡ 0) → used ≡ 0
  none-used none =
      s.tallied ∙ sum-free mem busy (λ next. busy-free (free_node next) refl) (λ n h k.
      free-node n h k (elim (cases_eq (node_at mem n).count 0) [
        | inl z ↦ z
        | inr ne ↦ absurd (unreached none n h (used-reached n (omega (arith, ne))))
      ]))

none_owned : (roots : List ℕ) → AllByRecursion (λ r. r ≡ 0) roots → (n : ℕ) → 0 < n → times n roots ≡ 0
none_owned [] a n h = refl
none_owned (r ∷ roots) a n h = omega (arith, same-other n r (λ e. omega (arith, h, e, a.0)), none_owned roots a.1 n h)

pub accounted : (mem : List Node) (free used : ℕ) (roots : List ℕ) → SoundIn mem free used roots → AccountedIn mem free used roots
accounted mem free used roots s =
    record {
      reached = used-reached _ _ _ roots s;
      used = reached-used _ _ _ roots s;
      counted = s.counted;
      chain = s.chain;
      chained = s.chained;
      listed = λ n h k z. s.listed n h k ∙ idle-free _ z;
      unlisted = λ n h k c. s.listed n h k ∙ idle-used _ c;
      empty = λ a. none-used _ _ _ roots s (none_owned roots a);
    }
