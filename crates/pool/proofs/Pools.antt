-- What a pool holds after each call, from the equations that the writes ensure.
use Rattle.std.proofs.Common.{◌≡◌, ℕ, ◌+◌, ◌-◌, ◌^◌, ◌<◌, ◌≤◌, List, ◌∷◌, map, length, set, ℤ, sym, refl, ap, ◌∙◌, subst, inl, inr, arith}
use Rattle.std.proofs.lemmas.Bool.{cases_eq, cases_lt}
use Rattle.pool.proofs.Holding.{built, count-le, lowered, opened, owner-used, raised}
use Rattle.pool.proofs.Nodes.{node_kept, node-le-sum, node-written, used-numbered, used-within}
use Rattle.pool.proofs.Owners.{no-links, same-other, same_self}
use Rattle.pool.proofs.FreeList.{busy-free, busy-used, first-within, idle-free}
use Rattle.pool.proofs.Trees.{same-fork}
use Rattle.pool.proofs.Writes.{first-free, recounted-linked}
use Rattle.pool.specs.FreeList.{AllFree, busy}
use Rattle.pool.specs.Held.{Carries, CarriesIn, CarriesLinks, CarriesLinksIn, Held, Holds, HoldsIn, SoundMemory, TakenApart, held, node_of}
use Rattle.pool.specs.Node.{free_node, node_at, with_count}
use Rattle.pool.specs.Owners.{links, times}
use Rattle.pool.specs.Sound.{SoundIn, memory_of, used_of}
use Rattle.pool.specs.Tree.{Linked, Tree, fork, fork_of, leaf}
use Rattle.pool.specs.declared.node.Node.{Node}
use Rattle.pool.specs.declared.node.Words.{Words}
use Rattle.pool.specs.declared.pool.Pool.{Pool}

pub holds_at : (p : Pool) (mem : List Node) (free used : ℕ) (hs : List Held) → memory_of p ≡ mem → p.free ≡ free → p.used ≡ used
    → HoldsIn mem free used hs → Holds p hs
unfolding Holds
holds_at p mem free used hs a b c h =
    subst (λ (k : ℕ). HoldsIn p.nodes.now p.free k hs) (sym c)
    (subst (λ (k : ℕ). HoldsIn p.nodes.now k used hs) (sym b) (subst (λ (m : List Node). HoldsIn m free used hs) (sym a) h))

pub holds-in : (p : Pool) (hs : List Held) → Holds p hs → HoldsIn (memory_of p) p.free p.used hs
unfolding Holds
holds-in p hs h = h

-- ---- owners that are no node

pub sound-reowned : (mem : List Node) (free used : ℕ) (old new : List ℕ) → ((n : ℕ) → 0 < n → times n new ≡ times n old)
    → SoundIn mem free used old → SoundIn mem free used new
sound-reowned mem free used old new e s =
    record {
      counted = λ n h. omega (arith, s.counted n h, e n h);
      grown = s.grown;
      chain = s.chain;
      chained = s.chained;
      listed = s.listed;
      spare = s.spare;
      small = s.small;
      tallied = s.tallied;
    }

pub holds-nothing : (p : Pool) (n : ℕ) (t : Tree) (hs : List Held) → n ≡ 0 → Holds p (held n t ∷ hs) → Holds p hs
unfolding Holds
holds-nothing p n t hs z h =
    record {
      sound = sound-reowned _ _ _ (n ∷ map node_of hs) (map node_of hs) (λ m k. omega (arith, same-other m n (λ e. omega arith))) h.sound;
      carried = h.carried.1;
    }

pub holds-leaf : (p : Pool) (n : ℕ) (t : Tree) (hs : List Held) → n ≡ 0 → Linked (memory_of p) n t → Holds p hs → Holds p (held n t ∷ hs)
unfolding Holds
holds-leaf p n t hs z l h =
    record {
      sound = sound-reowned _ _ _ (map node_of hs) (n ∷ map node_of hs) (λ m k. omega (arith, same-other m n (λ e. omega arith))) h.sound;
      carried = (l, h.carried);
    }

-- ---- what an owner knows of its node

pub held-carries : (p : Pool) (n : ℕ) (t : Tree) (hs : List Held) → Holds p (held n t ∷ hs) → Carries p n t
unfolding Holds
held-carries p n t hs h = record { kept = owner-used _ _ _ (held n t) hs h; linked = h.carried.0 }

pub held-used : (p : Pool) (n : ℕ) (t : Tree) (hs : List Held) → Holds p (held n t ∷ hs) → 0 < n → 0 < (node_at (memory_of p) n).count
held-used p n t hs h = (held-carries p n t hs h).kept

-- ---- one owner more

pub retain-fits : (p : Pool) (n : ℕ) (hs : List Held) → Holds p hs → length hs < 2 ^ 31 → (node_at (memory_of p) n).count + 1 < 2 ^ 32
unfolding Holds
retain-fits p n hs h few = omega (arith, count-le _ _ _ hs h n, h.sound.small)

pub retained : (p q : Pool) (n : ℕ) → memory_of q ≡ set (memory_of p) (n - 1) (with_count (node_at (memory_of p) n) ((node_at (memory_of p) n).count + 1))
    → q.free ≡ p.free → q.used ≡ p.used → 0 < n → (t : Tree) (hs : List Held) → Holds p hs → Carries p n t → Holds q (held n t ∷ hs)
retained p q n memory free used k t hs h carries =
    holds_at q _ _ _ (held n t ∷ hs) memory free used (raised _ _ _ n t hs (holds-in p hs h) (carries.kept k) carries.linked)

-- a write of another count leaves every node in use, with its tree
pub carries-recounted : (p q : Pool) (n d : ℕ) → memory_of q ≡ set (memory_of p) (n - 1) (with_count (node_at (memory_of p) n) d) → 0 < d
    → 0 < (node_at (memory_of p) n).count → (m : ℕ) (t : Tree) → Carries p m t → Carries q m t
carries-recounted p q n d memory pos used m t carries =
    let mem : List Node = memory_of p in
    let z : Node = with_count (node_at mem n) d in
    let numbered : 0 < n = used-numbered mem n used in
    record {
      kept = λ k. subst (λ (w : List Node). 0 < (node_at w m).count) (sym memory)
          (elim (cases_eq m n) [
            | inl g ↦ subst (λ (i : ℕ). 0 < (node_at (set mem (n - 1) z) i).count) (sym g)
                (omega (arith, pos, ap (λ (v : Node). v.count) (node-written mem n z numbered (used-within mem n used))))
            | inr ne ↦ omega (arith, carries.kept k, ap (λ (v : Node). v.count) (node_kept mem n m z numbered ne))
          ]);
      linked = subst (λ (w : List Node). Linked w m t) (sym memory) (recounted-linked mem n d used m t carries.linked);
    }

-- ---- a node taken

pub take-free : (p : Pool) (hs : List Held) → Holds p hs → used_of p < length (memory_of p)
    → (0 < p.free) × (p.free ≤ length (memory_of p)) × ((node_at (memory_of p) p.free).key.low ≤ 65535)
    × (length (memory_of p) ≤ 65535)
unfolding Holds
take-free p hs h room =
    let f = first-free _ _ _ (map node_of hs) h.sound room in (f.numbered, f.within, omega (arith, first-within _ _ f.rest f.onward, h.sound.small), h.sound.small)

pub took : (p q : Pool) (n : ℕ) (x : Node) → n ≡ p.free → memory_of q ≡ set (memory_of p) (p.free - 1) (with_count x 1)
    → q.free ≡ (node_at (memory_of p) p.free).key.low → q.used ≡ p.used + 1 → used_of p < length (memory_of p)
    → (nested left right : Tree) (hs : List Held) → Holds p (held x.left left ∷ held x.nested nested ∷ held x.right right ∷ hs)
    → Holds q (held n (fork_of x nested left right) ∷ hs)
took p q n x is memory free used room nested left right hs h =
    subst (λ (i : ℕ). Holds q (held i (fork_of x nested left right) ∷ hs)) (sym is)
    (holds_at q _ _ _ (held p.free (fork_of x nested left right) ∷ hs) memory free used (built _ _ _ x nested left right hs (holds-in p _ h) room))

-- the node that was taken has one owner
pub took-fresh : (p q : Pool) (n : ℕ) (x : Node) (hs : List Held) → n ≡ p.free → memory_of q ≡ set (memory_of p) (p.free - 1) (with_count x 1)
    → used_of p < length (memory_of p) → Holds p hs → (node_at (memory_of q) n).count ≡ 1
took-fresh p q n x hs is memory room h =
    let f = take-free p hs h room in
    ap (λ (i : ℕ). (node_at (memory_of q) i).count) is
    ∙ ap (λ (m : List Node). (node_at m p.free).count) memory
    ∙ ap (λ (y : Node). y.count) (node-written (memory_of p) p.free (with_count x 1) f.0 f.1)

-- ---- the node that an owner has, and its links

pub link-used : (mem : List Node) (free used : ℕ) (roots : List ℕ) → SoundIn mem free used roots → (n m : ℕ) → 0 < m → 0 < links m (node_at mem n)
    → 0 < (node_at mem m).count
link-used mem free used roots s n m h l = omega (arith, s.counted m h, node-le-sum (links m) mem n (no-links m 0 h))

-- the links of a node in use are 0 or in use
pub carries-links : (mem : List Node) (n : ℕ) (key : Words) (word : ℤ) (height : ℕ) (nested left right : Tree) → SoundMemory mem
    → CarriesIn mem n (fork key word height nested left right) → CarriesLinksIn mem (node_at mem n) nested left right
carries-links mem n key word height nested left right s c =
    let x : Node = node_at mem n in
    let used : (m : ℕ) → 0 < m → 0 < links m x → 0 < (node_at mem m).count = link-used _ _ _ (map node_of s.owners) s.holds.sound n in
    record {
      by_nested = record { kept = λ k. used x.nested k (omega (arith, same_self x.nested)); linked = c.linked.4 };
      by_left = record { kept = λ k. used x.left k (omega (arith, same_self x.left)); linked = c.linked.5 };
      by_right = record { kept = λ k. used x.right k (omega (arith, same_self x.right)); linked = c.linked.6 };
    }

pub sound-memory : (p : Pool) (hs : List Held) → Holds p hs → SoundMemory (memory_of p)
sound-memory p hs h = record { free = p.free; used = p.used; owners = hs; holds = holds-in p hs h }

-- the tree of a node is the fork with the node's contents
pub held-fork : (p : Pool) (n : ℕ) (t : Tree) (hs : List Held) → 0 < n → Holds p (held n t ∷ hs)
    → (nested : Tree) × (left : Tree) × (right : Tree) × Holds p (held n (fork_of (node_at (memory_of p) n) nested left right) ∷ hs)
held-fork p n leaf hs h holds = let z : n ≡ 0 = (held-carries p n leaf hs holds).linked in absurd (omega arith)
held-fork p n (fork key word height nested left right) hs h holds =
    let l = (held-carries p n (fork key word height nested left right) hs holds).linked in (
      nested,
      left,
      right,
      subst (λ (t : Tree). Holds p (held n t ∷ hs)) (same-fork (sym l.1) (sym l.2) (sym l.3) refl refl refl) holds,
    )

pub held-some : (p : Pool) (n : ℕ) (t : Tree) (hs : List Held) → Holds p (held n t ∷ hs) → 0 < n → 0 < used_of p
unfolding Holds
held-some p n t hs h k =
    let x : Node = node_at (memory_of p) n in
    omega (arith, h.sound.tallied, node-le-sum busy (memory_of p) n (busy-free (free_node 0) refl), busy-used x (held-used p n t hs h k))

-- where no node is in use, all are free
pub emptied : (p : Pool) (hs : List Held) → Holds p hs → used_of p ≡ 0 → AllFree (memory_of p)
unfolding Holds
emptied p hs h none = record {
  first = p.free;
  chain = h.sound.chain;
  chained = h.sound.chained;
  once = λ n k fits.
      let x : Node = node_at (memory_of p) n in
      let zero : x.count ≡ 0 =
      elim (cases_lt 0 x.count) [
        | inl more ↦ absurd (omega (arith, none, h.sound.tallied, node-le-sum busy (memory_of p) n (busy-free (free_node 0) refl), busy-used x more))
        | inr few ↦ omega arith
      ] in
      h.sound.listed n k fits ∙ idle-free x zero;
}

-- ---- one owner fewer

module _ (p q : Pool) (n : ℕ) (memory : memory_of q ≡ set (memory_of p) (n - 1) (with_count (node_at (memory_of p) n) ((node_at (memory_of p) n).count - 1)))
    (free : q.free ≡ p.free) (used : q.used ≡ p.used) (x : Node) (is : x ≡ node_at (memory_of p) n) (many : 1 < x.count) where
  shared : 1 < (node_at (memory_of p) n).count
  shared = omega (arith, ap (λ (z : Node). z.count) is)

  pub released : (t : Tree) (hs : List Held) → Holds p (held n t ∷ hs) → Holds q hs
  released t hs h = holds_at q _ _ _ hs memory free used (lowered _ _ _ n t hs (holds-in p _ h) shared)

  -- the links of the node that was shared are in use
  pub released-links : (key : Words) (word : ℤ) (height : ℕ) (nested left right : Tree) (hs : List Held)
      → Holds p (held n (fork key word height nested left right) ∷ hs) → CarriesLinks q x nested left right
  released-links key word height nested left right hs h =
      let t : Tree = fork key word height nested left right in
      let one : 0 < (node_at (memory_of p) n).count = omega (arith, shared) in
      let left_over : 0 < (node_at (memory_of p) n).count - 1 = omega (arith, shared) in
      let new : Carries q n t = carries-recounted p q n _ memory left_over one n t (held-carries p n t hs h) in
      let ls = carries-links (memory_of q) n key word height nested left right (sound-memory q hs (released t hs h)) new in
      let at : node_at (memory_of q) n ≡ with_count x ((node_at (memory_of p) n).count - 1) =
      ap (λ (m : List Node). node_at m n) memory
      ∙ node-written (memory_of p) n _ (used-numbered (memory_of p) n one) (used-within (memory_of p) n one)
      ∙ ap (λ (z : Node). with_count z ((node_at (memory_of p) n).count - 1)) (sym is) in
      record {
        by_nested = subst (λ (i : ℕ). Carries q i nested) (ap (λ (z : Node). z.nested) at) ls.by_nested;
        by_left = subst (λ (i : ℕ). Carries q i left) (ap (λ (z : Node). z.left) at) ls.by_left;
        by_right = subst (λ (i : ℕ). Carries q i right) (ap (λ (z : Node). z.right) at) ls.by_right;
      }

-- a node that was read has the contents of the fork that it carries
pub taken-apart : (p q : Pool) (n : ℕ) (x : Node) → x ≡ node_at (memory_of p) n
    → (key : Words) (word : ℤ) (height : ℕ) (nested left right : Tree) (hs : List Held)
    → Holds p (held n (fork key word height nested left right) ∷ hs)
    → Holds q (held x.left left ∷ held x.nested nested ∷ held x.right right ∷ hs) → TakenApart q x key word height nested left right hs
taken-apart p q n x is key word height nested left right hs h after =
    let l = (held-carries p n (fork key word height nested left right) hs h).linked in
    record {
      key_is = ap (λ (z : Node). z.key) is ∙ l.1;
      word_is = ap (λ (z : Node). z.word) is ∙ l.2;
      height_is = ap (λ (z : Node). z.height) is ∙ l.3;
      holds = after;
    }

-- ---- the last owner

module _ (p q : Pool) (n : ℕ) (memory : memory_of q ≡ set (memory_of p) (n - 1) (free_node p.free)) (free : q.free ≡ n) (used : q.used ≡ p.used - 1)
    (x : Node) (is : x ≡ node_at (memory_of p) n) (one : x.count ≤ 1) where
  pub gave-back : (key : Words) (word : ℤ) (height : ℕ) (nested left right : Tree) (hs : List Held)
      → Holds p (held n (fork key word height nested left right) ∷ hs)
      → Holds q (held x.left left ∷ held x.nested nested ∷ held x.right right ∷ hs)
  gave-back key word height nested left right hs h =
      let c = held-carries p n (fork key word height nested left right) hs h in
      let count : (node_at (memory_of p) n).count ≡ 1 = omega (arith, one, ap (λ (z : Node). z.count) is, c.kept c.linked.0) in
      subst (λ (z : Node). Holds q (held z.left left ∷ held z.nested nested ∷ held z.right right ∷ hs)) (sym is)
      (holds_at q _ _ _ _ memory free used (opened _ _ _ n key word height nested left right hs (holds-in p _ h) count))

  pub gave-back-links : (t : Tree) (hs : List Held) → 0 < n → Holds p (held n t ∷ hs)
      → (nested : Tree) × (left : Tree) × (right : Tree) × Holds q (held x.left left ∷ held x.nested nested ∷ held x.right right ∷ hs)
  gave-back-links t hs h holds =
      let f = held-fork p n t hs h holds in (f.0, f.1, f.2, gave-back _ _ _ f.0 f.1 f.2 hs f.3)
