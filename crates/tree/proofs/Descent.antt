-- What a node in use tells of the tree that it carries, and what a step to one of its sides keeps.
use Rattle.std.proofs.Common.{true, false, zero, suc, true≢false, ◌≡◌, ℕ, ◌<◌, List, Ordering, Less, Equal, Greater, sym, refl, ap, ◌∙◌, subst, arith}
use Rattle.pool.proofs.Nodes.{node-free}
use Rattle.pool.proofs.Pools.{carries-links}
use Rattle.pool.proofs.Trees.{same-fork}
use Rattle.pool.specs.Held.{CarriesIn, CarriesLinksIn, SoundMemory}
use Rattle.pool.specs.Node.{node_at}
use Rattle.pool.specs.Tree.{Tree, fork, fork_of, leaf}
use Rattle.pool.specs.declared.node.Node.{Node}
use Rattle.tree.specs.Ends.{at_end}
use Rattle.tree.specs.Lookup.{by_order}
use Rattle.tree.specs.Readable.{Readable}
use Rattle.tree.specs.Shape.{Balanced, height}
use Rattle.tree.specs.declared.end.End.{End}
use Rattle.tree.specs.declared.end.End.TheVariants.{First, Last}

-- a number that would be 0 only if two answers were one
pub numbered : (n : ℕ) → (n ≡ 0 → true ≡ false) → 0 < n
numbered zero h = absurd (true≢false (h refl))
numbered (suc n) h = omega arith

-- no node carries the leaf
pub by-none : (mem : List Node) (n : ℕ) → n ≡ 0 → (P : Tree → Type 0) → P leaf → (t : Tree) → CarriesIn mem n t → P t
by-none mem n z P here leaf c = here
by-none mem n z P here (fork key word tall nested left right) c = absurd (omega (arith, z, c.linked.0))

-- a node has the height of its tree
pub stored-height : (mem : List Node) (n : ℕ) (t : Tree) → CarriesIn mem n t → (node_at mem n).height ≡ height t
stored-height mem n leaf c = ap (λ (i : ℕ). (node_at mem i).height) c.linked ∙ ap (λ (x : Node). x.height) (node-free mem)
stored-height mem n (fork key word tall nested left right) c = c.linked.3

pub none-carries : (mem : List Node) → CarriesIn mem 0 leaf
none-carries mem = record { kept = λ k. absurd (omega (arith, k)); linked = refl }

-- the link by an ordering carries the tree by that ordering
pub side-carries : (mem : List Node) (x : Node) (nested left right : Tree) → CarriesLinksIn mem x nested left right → (o : Ordering) (m : ℕ)
    → m ≡ by_order o x.left 0 x.right → CarriesIn mem m (by_order o left leaf right)
side-carries mem x nested left right ls Less m on = subst (λ (i : ℕ). CarriesIn mem i left) (sym on) ls.by_left
side-carries mem x nested left right ls Equal m on = subst (λ (i : ℕ). CarriesIn mem i leaf) (sym on) (none-carries mem)
side-carries mem x nested left right ls Greater m on = subst (λ (i : ℕ). CarriesIn mem i right) (sym on) ls.by_right

-- the link on an end carries the tree on that end
pub end-carries : (mem : List Node) (x : Node) (nested left right : Tree) → CarriesLinksIn mem x nested left right → (e : End) (m : ℕ)
    → m ≡ at_end e x.left x.right → CarriesIn mem m (at_end e left right)
end-carries mem x nested left right ls First = side-carries mem x nested left right ls Less
end-carries mem x nested left right ls Last = side-carries mem x nested left right ls Greater

-- the node m carries a tree that is lower than t, and can be asked
pub record Below (mem : List Node) (t m : ℕ) : Type 0 where
  pub falls : (node_at mem m).height < t
  pub readable : Readable mem m

module _ (mem : List Node) (h : SoundMemory mem) (n : ℕ) (numbered : 0 < n) (x : Node) (is : x ≡ node_at mem n) where
  -- the node x carries a fork with its contents, over the trees of its links
  pub by-node : (P : Tree → Type 0) → ((nested left right : Tree) → CarriesLinksIn mem x nested left right → P (fork_of x nested left right))
      → (t : Tree) → CarriesIn mem n t → P t
  by-node P here leaf c = absurd (omega (arith, numbered, c.linked))
  by-node P here (fork key word tall nested left right) c =
      let l = c.linked in
      let ls = carries-links mem n key word tall nested left right h c in
      subst P (same-fork (ap (λ (z : Node). z.key) is ∙ l.1) (ap (λ (z : Node). z.word) is ∙ l.2) (ap (λ (z : Node). z.height) is ∙ l.3) refl refl refl)
      (here nested left right (subst (λ (z : Node). CarriesLinksIn mem z nested left right) (sym is) ls))

  -- what is known of some tree of the node is known of the fork
  pub parted : (Q : Tree → Type 0) → ((t : Tree) × CarriesIn mem n t × Q t)
      → (nested : Tree) × (left : Tree) × (right : Tree) × CarriesLinksIn mem x nested left right × Q (fork_of x nested left right)
  parted Q (t, c, q) =
      by-node (λ u. Q u → (nested : Tree) × (left : Tree) × (right : Tree) × CarriesLinksIn mem x nested left right × Q (fork_of x nested left right))
      (λ nested left right ls k. (nested, left, right, ls, k)) t c q

  module _ (t : ℕ) (measured : (node_at mem n).height ≡ t) where
    -- both sides are lower
    pub left-falls : (nested left right : Tree) → CarriesLinksIn mem x nested left right → Balanced (fork_of x nested left right)
        → (node_at mem x.left).height < t
    left-falls nested left right ls b = omega (arith, measured, b.0, stored-height mem x.left left ls.by_left, ap (λ (z : Node). z.height) is)

    pub right-falls : (nested left right : Tree) → CarriesLinksIn mem x nested left right → Balanced (fork_of x nested left right)
        → (node_at mem x.right).height < t
    right-falls nested left right ls b = omega (arith, measured, b.0, stored-height mem x.right right ls.by_right, ap (λ (z : Node). z.height) is)

    lower : (o : Ordering) → Readable mem n → Below mem t (by_order o x.left 0 x.right)
    lower Less some =
        let (nested, left, right, ls, b) = parted Balanced (some.tree, some.carried, some.balanced) in
        record {
          falls = left-falls nested left right ls b;
          readable = record { sound = h; tree = left; carried = ls.by_left; balanced = b.3 };
        }
    lower Equal some =
        let (nested, left, right, ls, b) = parted Balanced (some.tree, some.carried, some.balanced) in
        record {
          falls = omega (arith, measured, b.0, ap (λ (z : Node). z.height) is, ap (λ (z : Node). z.height) (node-free mem));
          readable = record { sound = h; tree = leaf; carried = none-carries mem; balanced = tt };
        }
    lower Greater some =
        let (nested, left, right, ls, b) = parted Balanced (some.tree, some.carried, some.balanced) in
        record {
          falls = right-falls nested left right ls b;
          readable = record { sound = h; tree = right; carried = ls.by_right; balanced = b.4 };
        }

    pub to-side : (o : Ordering) (m : ℕ) → m ≡ by_order o x.left 0 x.right → Readable mem n → Below mem t m
    to-side o m on some = subst (Below mem t) (sym on) (lower o some)

    pub to-end : (e : End) (m : ℕ) → m ≡ at_end e x.left x.right → Readable mem n → Below mem t m
    to-end First = to-side Less
    to-end Last = to-side Greater
