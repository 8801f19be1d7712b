-- What each of the three writes leaves sound: another count, a node given back, a node taken.
use Rattle.std.proofs.Common.{◌≡◌, ℕ, ◌+◌, ◌-◌, ◌<◌, ◌≤◌, ◌≢◌, List, ◌∷◌, length, set, sum_by, sym, refl, ap, ◌∙◌, subst, inl, inr, arith, length-set}
use Rattle.std.proofs.lemmas.Bool.{cases_eq}
use Rattle.pool.proofs.Counts.{counted-written}
use Rattle.pool.proofs.FreeList.{busy-free, busy-used, chain-begins, chain-kept, idle-free, idle-used}
use Rattle.pool.proofs.Nodes.{node_kept, node-le-sum, node-written, sum-written, used-numbered, used-within}
use Rattle.pool.proofs.Owners.{no-links, other-from-same, same-other, same_self}
use Rattle.pool.proofs.Trees.{linked-agrees}
use Rattle.pool.specs.FreeList.{Chain, busy, idle}
use Rattle.pool.specs.Node.{free_node, node_at, with_count}
use Rattle.pool.specs.Owners.{links, links_to, same, times}
use Rattle.pool.specs.Sound.{SoundIn}
use Rattle.pool.specs.Tree.{Linked, Tree, fork_of, leaf}
use Rattle.pool.specs.declared.node.Node.{Node}

-- ---- a write that changes the count alone

pub recounted-linked : (mem : List Node) (n c : ℕ) → 0 < (node_at mem n).count → (m : ℕ) (t : Tree) → Linked mem m t
    → Linked (set mem (n - 1) (with_count (node_at mem n) c)) m t
recounted-linked mem n c h m t l =
    let x : Node = with_count (node_at mem n) c in
    let numbered : 0 < n = used-numbered mem n h in
    let within : n ≤ length mem = used-within mem n h in
    let here : with_count (node_at mem n) 0 ≡ with_count (node_at (set mem (n - 1) x) n) 0 =
    ap (λ (y : Node). with_count y 0) (sym (node-written mem n x numbered within)) in
    linked-agrees mem (set mem (n - 1) x) (λ _. Unit {0}) (λ k p _. (
      elim (cases_eq k n) [
        | inl e ↦ subst (λ (i : ℕ). with_count (node_at mem i) 0 ≡ with_count (node_at (set mem (n - 1) x) i) 0) (sym e) here
        | inr ne ↦ ap (λ (y : Node). with_count y 0) (sym (node_kept mem n k x numbered ne))
      ],
      tt,
      tt,
      tt,
    )) m t tt l

pub recounted : (mem : List Node) (free used n c : ℕ) (old new : List ℕ) → SoundIn mem free used old
    → 0 < (node_at mem n).count → 0 < c
    → ((m : ℕ) → m ≢ n → times m new ≡ times m old)
    → c + times n old ≡ (node_at mem n).count + times n new
    → SoundIn (set mem (n - 1) (with_count (node_at mem n) c)) free used new
recounted mem free used n c old new s h k others here =
    let x : Node = with_count (node_at mem n) c in
    let after : List Node = set mem (n - 1) x in
    let numbered : 0 < n = used-numbered mem n h in
    let within : n ≤ length mem = used-within mem n h in
    let written : node_at after n ≡ x = node-written mem n x numbered within in
    let off : times n s.chain ≡ 0 = s.listed n numbered within ∙ idle-used (node_at mem n) h in
    let idles : (m : ℕ) → idle (node_at after m) ≡ idle (node_at mem m) = λ m.
    elim (cases_eq m n) [
      | inl e ↦ subst (λ (i : ℕ). idle (node_at after i) ≡ idle (node_at mem i)) (sym e)
          (ap idle written ∙ idle-used x k ∙ sym (idle-used (node_at mem n) h))
      | inr ne ↦ ap idle (node_kept mem n m x numbered ne)
    ] in
    let counts : (m : ℕ) → 0 < (node_at after m).count → 0 < (node_at mem m).count = λ m p.
    elim (cases_eq m n) [
      | inl e ↦ subst (λ (i : ℕ). 0 < (node_at mem i).count) (sym e) h
      | inr ne ↦ omega (arith, p, ap (λ (y : Node). y.count) (node_kept mem n m x numbered ne))
    ] in
    record {
      counted = counted-written mem n x old new numbered within s.counted (λ m p ne. omega (arith, others m ne)) (omega (arith, here));
      grown = λ m p. let g = s.grown m (counts m p) in (g.0, recounted-linked mem n c h m g.0 g.1);
      chain = s.chain;
      chained = chain-kept mem n x numbered free s.chain off s.chained;
      listed = λ m p q. s.listed m p (rw length-set at q) ∙ sym (idles m);
      spare = s.spare ∙ sym (length-set mem (n - 1) x);
      small = omega (arith, s.small, length-set mem (n - 1) x);
      tallied = omega (arith, s.tallied, sum-written busy mem n x numbered within, busy-used x k, busy-used (node_at mem n) h);
    }

-- ---- a write to a node that nothing leads to

pub unlinked-linked : (mem : List Node) (n : ℕ) (x : Node) → 0 < n → links_to n mem ≡ 0 → (m : ℕ) (t : Tree) → m ≢ n → Linked mem m t
    → Linked (set mem (n - 1) x) m t
unlinked-linked mem n x h z m t ne l =
    linked-agrees mem (set mem (n - 1) x) (λ k. k ≢ n) (λ k p q.
    let none : links n (node_at mem k) ≤ 0 = omega (arith, z, node-le-sum (links n) mem k (no-links n 0 h)) in
    let apart : (i : ℕ) → same n i ≡ 0 → i ≢ n = λ i e f. other-from-same n i e (sym f) in (
      ap (λ (y : Node). with_count y 0) (sym (node_kept mem n k x h q)),
      apart (node_at mem k).nested (omega arith),
      apart (node_at mem k).left (omega arith),
      apart (node_at mem k).right (omega arith),
    )) m t ne l

-- what a node with count 0 reads as: nothing owns it
pub unowned : (mem : List Node) (free used : ℕ) (roots : List ℕ) → SoundIn mem free used roots → (n : ℕ) → 0 < n → (node_at mem n).count ≡ 0
    → (times n roots ≡ 0) × (links_to n mem ≡ 0)
unowned mem free used roots s n h z = (omega (arith, s.counted n h), omega (arith, s.counted n h))

-- a node with one owner, which is an outside owner, has no other
pub owned-once : (mem : List Node) (free used n : ℕ) (roots : List ℕ) → SoundIn mem free used (n ∷ roots) → 0 < n → (node_at mem n).count ≡ 1
    → (times n roots ≡ 0) × (links_to n mem ≡ 0)
owned-once mem free used n roots s h z = (omega (arith, s.counted n h, same_self n), omega (arith, s.counted n h, same_self n))

-- ---- the last owner gives the node back, and owns its links

pub freed : (mem : List Node) (free used n : ℕ) (roots : List ℕ) → SoundIn mem free used (n ∷ roots) → (node_at mem n).count ≡ 1
    → SoundIn (set mem (n - 1) (free_node free)) n (used - 1) ((node_at mem n).left ∷ (node_at mem n).nested ∷ (node_at mem n).right ∷ roots)
freed mem free used n roots s one =
    let x : Node = free_node free in
    let after : List Node = set mem (n - 1) x in
    let numbered : 0 < n = used-numbered mem n (omega arith) in
    let within : n ≤ length mem = used-within mem n (omega arith) in
    let old : Node = node_at mem n in
    let written : node_at after n ≡ x = node-written mem n x numbered within in
    let alone : (times n roots ≡ 0) × (links_to n mem ≡ 0) = owned-once mem free used n roots s numbered one in
    let off : times n s.chain ≡ 0 = s.listed n numbered within ∙ idle-used old (omega arith) in
    let other : (m : ℕ) → 0 < (node_at after m).count → m ≢ n = λ m p e.
    omega (arith, p, ap (λ (i : ℕ). (node_at after i).count) e, ap (λ (y : Node). y.count) written) in
    let sums : sum_by busy after + 1 ≡ used =
    omega (arith, s.tallied, sum-written busy mem n x numbered within, busy-free x refl, busy-used old (omega arith)) in
    record {
      counted = counted-written mem n x (n ∷ roots) (old.left ∷ old.nested ∷ old.right ∷ roots) numbered within s.counted
          (λ m p ne. omega (arith, no-links m free p, same-other m n ne))
          (omega (arith, one, no-links n free numbered, same_self n));
      grown = λ m p.
          let ne : m ≢ n = other m p in
          let g = s.grown m (omega (arith, p, ap (λ (y : Node). y.count) (node_kept mem n m x numbered ne))) in
          (g.0, unlinked-linked mem n x numbered alone.1 m g.0 ne g.1);
      chain = n ∷ s.chain;
      chained =
          (refl, numbered, omega (arith, within, length-set mem (n - 1) x), (free, written, chain-kept mem n x numbered free s.chain off s.chained));
      listed = λ m p q.
          elim (cases_eq m n) [
            | inl e ↦ subst (λ (i : ℕ). times i (n ∷ s.chain) ≡ idle (node_at after i)) (sym e)
                (omega (arith, same_self n, off, ap idle written, idle-free x refl))
            | inr ne ↦ omega (arith, same-other m n ne, s.listed m p (rw length-set at q), ap idle (node_kept mem n m x numbered ne))
          ];
      spare = omega (arith, s.spare, sums, length-set mem (n - 1) x);
      small = omega (arith, s.small, length-set mem (n - 1) x);
      tallied = omega (arith, sums);
    }

-- ---- the first free node is taken, and owns the links that it is given

-- a root carries a tree
pub root-grown : (mem : List Node) (free used : ℕ) (roots : List ℕ) → SoundIn mem free used roots → (n : ℕ) → (0 < n → 0 < times n roots)
    → (t : Tree) × Linked mem n t
root-grown mem free used roots s n owned =
    elim (cases_eq n 0) [
      | inl e ↦ (leaf, e)
      | inr ne ↦ s.grown n (omega (arith, s.counted n (omega (arith, ne)), owned (omega (arith, ne))))
    ]

pub taken-linked : (mem : List Node) (n : ℕ) (x : Node) (nested left right : Tree) → 0 < n → n ≤ length mem → links_to n mem ≡ 0
    → x.nested ≢ n → x.left ≢ n → x.right ≢ n → Linked mem x.nested nested → Linked mem x.left left → Linked mem x.right right
    → Linked (set mem (n - 1) (with_count x 1)) n (fork_of x nested left right)
taken-linked mem n x nested left right h k z a b c p q r =
    let y : Node = with_count x 1 in
    let after : List Node = set mem (n - 1) y in
    let written : node_at after n ≡ y = node-written mem n y h k in (
      h,
      ap (λ (v : Node). v.key) written,
      ap (λ (v : Node). v.word) written,
      ap (λ (v : Node). v.height) written,
      subst (λ (i : ℕ). Linked after i nested) (sym (ap (λ (v : Node). v.nested) written)) (unlinked-linked mem n y h z x.nested nested a p),
      subst (λ (i : ℕ). Linked after i left) (sym (ap (λ (v : Node). v.left) written)) (unlinked-linked mem n y h z x.left left b q),
      subst (λ (i : ℕ). Linked after i right) (sym (ap (λ (v : Node). v.right) written)) (unlinked-linked mem n y h z x.right right c r),
    )

-- the first free node: where it stands, what it names, and that nothing owns it
pub record FirstFree (mem : List Node) (free : ℕ) (chain roots : List ℕ) : Type 0 where
  pub rest : List ℕ
  pub begins : chain ≡ free ∷ rest
  pub numbered : 0 < free
  pub within : free ≤ length mem
  pub vacant : node_at mem free ≡ free_node (node_at mem free).key.low
  pub onward : Chain mem (node_at mem free).key.low rest
  pub unrooted : times free roots ≡ 0
  pub unlinked : links_to free mem ≡ 0

pub first-free : (mem : List Node) (free used : ℕ) (roots : List ℕ) (s : SoundIn mem free used roots) → used < length mem
    → FirstFree mem free s.chain roots
first-free mem free used roots s room =
    let b = chain-begins mem free s.chain s.chained (omega (arith, s.spare)) in
    let z = unowned mem free used roots s free b.2 (ap (λ (y : Node). y.count) b.4) in
    record { rest = b.0; begins = b.1; numbered = b.2; within = b.3; vacant = b.4; onward = b.5; unrooted = z.0; unlinked = z.1 }

pub taken : (mem : List Node) (free used : ℕ) (x : Node) (roots : List ℕ) → SoundIn mem free used (x.left ∷ x.nested ∷ x.right ∷ roots)
    → used < length mem
    → SoundIn (set mem (free - 1) (with_count x 1)) (node_at mem free).key.low (used + 1) (free ∷ roots)
taken mem free used x roots s room =
    let y : Node = with_count x 1 in
    let after : List Node = set mem (free - 1) y in
    let f = first-free mem free used (x.left ∷ x.nested ∷ x.right ∷ roots) s room in
    let written : node_at after free ≡ y = node-written mem free y f.numbered f.within in
    let old : Node = node_at mem free in
    let zero-count : old.count ≡ 0 = ap (λ (v : Node). v.count) f.vacant in
    let no-link : (m : ℕ) → 0 < m → links m old ≡ 0 = λ m p. ap (links m) f.vacant ∙ no-links m old.key.low p in
    let on : (m : ℕ) → times m s.chain ≡ same m free + times m f.rest = λ m. ap (times m) f.begins in
    let off : times free f.rest ≡ 0 =
    omega (arith, on free, same_self free, s.listed free f.numbered f.within, idle-free old zero-count) in
    let apart : (i : ℕ) → same free i ≡ 0 → i ≢ free = λ i e g. other-from-same free i e (sym g) in
    let tree : (i : ℕ) → (0 < i → 0 < times i (x.left ∷ x.nested ∷ x.right ∷ roots)) → (t : Tree) × Linked mem i t =
    root-grown mem free used (x.left ∷ x.nested ∷ x.right ∷ roots) s in
    let tl = tree x.left (λ _. omega (arith, same_self x.left)) in
    let tn = tree x.nested (λ _. omega (arith, same_self x.nested)) in
    let tr = tree x.right (λ _. omega (arith, same_self x.right)) in
    record {
      counted = counted-written mem free y (x.left ∷ x.nested ∷ x.right ∷ roots) (free ∷ roots) f.numbered f.within s.counted
          (λ m p ne. omega (arith, no-link m p, same-other m free ne))
          (omega (arith, zero-count, no-link free f.numbered, same_self free));
      grown = λ m p.
          elim (cases_eq m free) [
            | inl e ↦ subst (λ (i : ℕ). (t : Tree) × Linked after i t) (sym e) (
              fork_of x tn.0 tl.0 tr.0,
              taken-linked mem free x tn.0 tl.0 tr.0 f.numbered f.within f.unlinked
                  (apart x.nested (omega (arith, f.unrooted))) (apart x.left (omega (arith, f.unrooted))) (apart x.right (omega (arith, f.unrooted)))
                  tn.1 tl.1 tr.1,
            )
            | inr ne ↦
                let g = s.grown m (omega (arith, p, ap (λ (v : Node). v.count) (node_kept mem free m y f.numbered ne))) in
                (g.0, unlinked-linked mem free y f.numbered f.unlinked m g.0 ne g.1)
          ];
      chain = f.rest;
      chained = chain-kept mem free y f.numbered old.key.low f.rest off f.onward;
      listed = λ m p q.
          elim (cases_eq m free) [
            | inl e ↦ subst (λ (i : ℕ). times i f.rest ≡ idle (node_at after i)) (sym e)
                (omega (arith, off, ap idle written, idle-used y (omega arith)))
            | inr ne ↦ omega (arith, on m, same-other m free ne, s.listed m p (rw length-set at q), ap idle (node_kept mem free m y f.numbered ne))
          ];
      spare = omega (arith, s.spare, ap length f.begins, length-set mem (free - 1) y);
      small = omega (arith, s.small, length-set mem (free - 1) y);
      tallied = omega (arith, s.tallied, sum-written busy mem free y f.numbered f.within, busy-free old zero-count, busy-used y (omega arith));
    }
