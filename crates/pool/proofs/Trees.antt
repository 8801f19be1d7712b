-- Which tree a node carries.
use Rattle.std.proofs.Common.{◌≡◌, ℕ, ◌<◌, List, ℤ, sym, refl, ap, ◌∙◌, subst, arith}
use Rattle.pool.specs.Node.{node_at, with_count}
use Rattle.pool.specs.Tree.{Linked, Tree, fork, leaf}
use Rattle.pool.specs.declared.node.Node.{Node}
use Rattle.pool.specs.declared.node.Words.{Words}

pub same-fork : {k l : Words} {w v : ℤ} {h i : ℕ} {a b c d e f : Tree} → k ≡ l → w ≡ v → h ≡ i → a ≡ b → c ≡ d → e ≡ f
    → fork k w h a c e ≡ fork l v i b d f
same-fork p q r s t u = λ j. fork (p j) (q j) (r j) (s j) (t j) (u j)

-- a node carries one tree at most
pub linked-unique : (mem : List Node) (n : ℕ) (t u : Tree) → Linked mem n t → Linked mem n u → t ≡ u
linked-unique mem n leaf leaf p q = refl
linked-unique mem n leaf (fork k w h a b c) p q = absurd (omega (arith, p, q.0))
linked-unique mem n (fork k w h a b c) leaf p q = absurd (omega (arith, q, p.0))
linked-unique mem n (fork k w h a b c) (fork l v i d e f) p q =
    same-fork (sym p.1 ∙ q.1) (sym p.2 ∙ q.2) (sym p.3 ∙ q.3)
    (linked-unique mem (node_at mem n).nested a d p.4 q.4) (linked-unique mem (node_at mem n).left b e p.5 q.5) (linked-unique mem (node_at mem n).right c f p.6 q.6)

-- two memories that agree on a set of nodes which no link leaves carry the same trees there
abbrev pub Closed : List Node → List Node → (ℕ → Type 0) → Type 0
Closed mem after P =
    (m : ℕ) → 0 < m → P m
    → (with_count (node_at mem m) 0 ≡ with_count (node_at after m) 0) × P (node_at mem m).nested × P (node_at mem m).left × P (node_at mem m).right

pub linked-agrees : (mem after : List Node) (P : ℕ → Type 0) → Closed mem after P → (n : ℕ) (t : Tree) → P n → Linked mem n t → Linked after n t
linked-agrees mem after P c n leaf p h = h
linked-agrees mem after P c n (fork k w i a b d) p h =
    let s = c n h.0 p in
    let e : with_count (node_at mem n) 0 ≡ with_count (node_at after n) 0 = s.0 in (
      h.0,
      sym (ap (λ (x : Node). x.key) e) ∙ h.1,
      sym (ap (λ (x : Node). x.word) e) ∙ h.2,
      sym (ap (λ (x : Node). x.height) e) ∙ h.3,
      subst (λ (m : ℕ). Linked after m a) (ap (λ (x : Node). x.nested) e) (linked-agrees mem after P c (node_at mem n).nested a s.1 h.4),
      subst (λ (m : ℕ). Linked after m b) (ap (λ (x : Node). x.left) e) (linked-agrees mem after P c (node_at mem n).left b s.2 h.5),
      subst (λ (m : ℕ). Linked after m d) (ap (λ (x : Node). x.right) e) (linked-agrees mem after P c (node_at mem n).right d s.3 h.6),
    )
