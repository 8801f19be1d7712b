-- What a memory holds for its outside owners after each write.
use Rattle.std.proofs.Common.{◌≡◌, ℕ, ◌+◌, ◌-◌, ◌*◌, ◌<◌, ◌≤◌, ◌≢◌, List, [], ◌∷◌, map, length, set, ℤ, sym, inl, inr, arith}
use Rattle.std.proofs.ByRecursion.{All-weaker}
use Rattle.std.proofs.lemmas.List.{length-map}
use Rattle.std.proofs.lemmas.Bool.{cases_eq}
use Rattle.pool.proofs.Nodes.{node-le-sum, used-numbered}
use Rattle.pool.proofs.Owners.{links-le, no-links, other-from-same, same-other, same_self, times-le-length}
use Rattle.pool.proofs.Writes.{first-free, freed, owned-once, recounted, recounted-linked, taken, taken-linked, unlinked-linked}
use Rattle.pool.specs.Held.{Carried, Held, HoldsIn, held, node_of}
use Rattle.pool.specs.Node.{free_node, node_at, with_count}
use Rattle.pool.specs.Owners.{links, links_to, same, times}
use Rattle.pool.specs.Tree.{Linked, Tree, fork, fork_of}
use Rattle.pool.specs.declared.node.Node.{Node}
use Rattle.pool.specs.declared.node.Words.{Words}

carried-unlinked : (mem : List Node) (n : ℕ) (x : Node) → 0 < n → links_to n mem ≡ 0 → (hs : List Held) → times n (map node_of hs) ≡ 0
    → Carried mem hs → Carried (set mem (n - 1) x) hs
carried-unlinked mem n x h z [] none c = tt
carried-unlinked mem n x h z (g ∷ hs) none c = (
  unlinked-linked mem n x h z g.node g.tree (λ e. other-from-same n g.node (omega arith) (sym e)) c.0,
  carried-unlinked mem n x h z hs (omega arith) c.1,
)

-- an outside owner's node is in use, unless it is 0
pub owner-used : (mem : List Node) (free used : ℕ) (h : Held) (hs : List Held) → HoldsIn mem free used (h ∷ hs) → 0 < h.node
    → 0 < (node_at mem h.node).count
owner-used mem free used h hs holds p = omega (arith, holds.sound.counted h.node p, same_self h.node)

-- a count is at most the number of outside owners and three links a node
pub count-le : (mem : List Node) (free used : ℕ) (hs : List Held) → HoldsIn mem free used hs → (n : ℕ)
    → (node_at mem n).count ≤ length hs + length mem * 3
count-le mem free used hs holds n =
    elim (cases_eq (node_at mem n).count 0) [
      | inl z ↦ omega arith
      | inr ne ↦
          let p : 0 < n = used-numbered mem n (omega (arith, ne)) in
          omega (arith, holds.sound.counted n p, times-le-length n (map node_of hs), length-map hs node_of, links-le n mem)
    ]

-- one owner more of a node in use
pub raised : (mem : List Node) (free used n : ℕ) (t : Tree) (hs : List Held) → HoldsIn mem free used hs → 0 < (node_at mem n).count → Linked mem n t
    → HoldsIn (set mem (n - 1) (with_count (node_at mem n) ((node_at mem n).count + 1))) free used (held n t ∷ hs)
raised mem free used n t hs holds h l =
    let kept = recounted-linked mem n ((node_at mem n).count + 1) h in
    record {
      sound = recounted mem free used n ((node_at mem n).count + 1) (map node_of hs) (n ∷ map node_of hs) holds.sound h (omega arith)
          (λ m ne. omega (arith, same-other m n ne)) (omega (arith, same_self n));
      carried = (kept n t l, All-weaker _ _ (λ g c. kept g.node g.tree c) hs holds.carried);
    }

-- one owner fewer of a node that has more
pub lowered : (mem : List Node) (free used n : ℕ) (t : Tree) (hs : List Held) → HoldsIn mem free used (held n t ∷ hs) → 1 < (node_at mem n).count
    → HoldsIn (set mem (n - 1) (with_count (node_at mem n) ((node_at mem n).count - 1))) free used hs
lowered mem free used n t hs holds h =
    let kept = recounted-linked mem n ((node_at mem n).count - 1) (omega arith) in
    record {
      sound = recounted mem free used n ((node_at mem n).count - 1) (n ∷ map node_of hs) (map node_of hs) holds.sound (omega arith) (omega arith)
          (λ m ne. omega (arith, same-other m n ne)) (omega (arith, same_self n));
      carried = All-weaker _ _ (λ g c. kept g.node g.tree c) hs holds.carried.1;
    }

-- the last owner gives the node back, and owns its links
pub opened : (mem : List Node) (free used n : ℕ) (key : Words) (word : ℤ) (height : ℕ) (nested left right : Tree) (hs : List Held)
    → HoldsIn mem free used (held n (fork key word height nested left right) ∷ hs) → (node_at mem n).count ≡ 1
    → HoldsIn (set mem (n - 1) (free_node free)) n (used - 1)
    (held (node_at mem n).left left ∷ held (node_at mem n).nested nested ∷ held (node_at mem n).right right ∷ hs)
opened mem free used n key word height nested left right hs holds one =
    let l = holds.carried.0 in
    let alone = owned-once mem free used n (map node_of hs) holds.sound l.0 one in
    let apart : (i : ℕ) → same n i ≡ 0 → i ≢ n = λ i e f. other-from-same n i e (sym f) in
    let none : links n (node_at mem n) ≤ 0 = omega (arith, alone.1, node-le-sum (links n) mem n (no-links n 0 l.0)) in
    let kept = unlinked-linked mem n (free_node free) l.0 alone.1 in
    record {
      sound = freed mem free used n (map node_of hs) holds.sound one;
      carried = (
        kept (node_at mem n).left left (apart _ (omega arith)) l.5,
        (
          kept (node_at mem n).nested nested (apart _ (omega arith)) l.4,
          (
            kept (node_at mem n).right right (apart _ (omega arith)) l.6,
            carried-unlinked mem n (free_node free) l.0 alone.1 hs alone.0 holds.carried.1,
          ),
        ),
      );
    }

-- a free node is taken, and owns the three nodes that it is given
pub built : (mem : List Node) (free used : ℕ) (x : Node) (nested left right : Tree) (hs : List Held)
    → HoldsIn mem free used (held x.left left ∷ held x.nested nested ∷ held x.right right ∷ hs) → used < length mem
    → HoldsIn (set mem (free - 1) (with_count x 1)) (node_at mem free).key.low (used + 1) (held free (fork_of x nested left right) ∷ hs)
built mem free used x nested left right hs holds room =
    let f = first-free mem free used (x.left ∷ x.nested ∷ x.right ∷ map node_of hs) holds.sound room in
    let c = holds.carried in
    let apart : (i : ℕ) → same free i ≡ 0 → i ≢ free = λ i e g. other-from-same free i e (sym g) in
    record {
      sound = taken mem free used x (map node_of hs) holds.sound room;
      carried = (
        taken-linked mem free x nested left right f.numbered f.within f.unlinked
            (apart x.nested (omega (arith, f.unrooted))) (apart x.left (omega (arith, f.unrooted))) (apart x.right (omega (arith, f.unrooted)))
            c.1.0 c.0 c.1.1.0,
        carried-unlinked mem free (with_count x 1) f.numbered f.unlinked hs (omega (arith, f.unrooted)) c.1.1.1,
      );
    }
