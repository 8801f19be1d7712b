-- A pool that holds a line with one stage, one name and one reading, and nothing else, has three nodes in use.
use Rattle.std.proofs.Common.{◌≡◌, ◌≢◌, ℕ, suc, ◌-◌, ◌<◌, ◌≤◌, ◌⊎◌, List, [], ◌∷◌, length, set, sum_by, ℤ, sym, refl, ap, ◌∙◌, subst, inl, inr, arith}
use Rattle.std.proofs.lemmas.Bool.{cases_eq}
use Rattle.std.proofs.lemmas.List.{length-set}
use Rattle.pool.proofs.FreeList.{busy-free, busy-used}
use Rattle.pool.proofs.Freeing.{sum-free}
use Rattle.pool.proofs.Nodes.{node-free, node-written, node_kept, sum-written, used-within}
use Rattle.pool.proofs.Owners.{no-links, same-other, same_self}
use Rattle.pool.proofs.Reached.{free-node, reached-used, used-reached}
use Rattle.pool.proofs.Trees.{linked-unique}
use Rattle.pool.specs.FreeList.{busy}
use Rattle.pool.specs.Held.{HoldsIn, held}
use Rattle.pool.specs.Node.{free_node, node_at}
use Rattle.pool.specs.Owners.{links}
use Rattle.pool.specs.Reached.{Reached, linked, owned}
use Rattle.pool.specs.Tree.{Linked, Tree, fork, leaf}
use Rattle.pool.specs.declared.node.Node.{Node}
use Rattle.pool.specs.declared.node.Words.{Words}

-- how deep trees are nested in the tree
abbrev nesting : Tree → ℕ
nesting leaf = 0
nesting (fork key word height nested left right) = suc (nesting nested)

-- a node that carries another depth is another node
other-node : (mem : List Node) (m n : ℕ) (t u : Tree) → Linked mem m t → Linked mem n u → (nesting t ≡ nesting u → ⊥) → m ≢ n
other-node mem m n t u p q differ e = differ (ap nesting (linked-unique mem n t u (subst (λ (i : ℕ). Linked mem i t) e p) q))

-- a node without sides links to its nested tree alone
nested-only : (x : Node) (m : ℕ) → 0 < m → x.left ≡ 0 → x.right ≡ 0 → 0 < links m x → m ≡ x.nested
nested-only x m h l r some =
    elim (cases_eq m x.nested) [
      | inl e ↦ e
      | inr ne ↦ absurd (omega (arith, some, same-other m x.nested ne, same-other m x.left (λ e. omega (arith, h, l, e)), same-other m x.right (λ e. omega (arith, h, r, e))))
    ]

-- one node in use fewer
less-one : (mem : List Node) (n : ℕ) → 0 < n → 0 < (node_at mem n).count → sum_by busy mem ≡ suc (sum_by busy (set mem (n - 1) (free_node 0)))
less-one mem n h p =
    omega (arith, sum-written busy mem n (free_node 0) h (used-within mem n p), busy-used (node_at mem n) p, busy-free (free_node 0) refl)

module _ (mem : List Node) (free used a : ℕ) (k l m : Words) (u v w : ℤ) (x y z : ℕ) where
  abbrev card : Tree
  card = fork m w z leaf leaf leaf

  abbrev sheet : Tree
  sheet = fork l v y card leaf leaf

  abbrev line : Tree
  line = fork k u x sheet leaf leaf

  module _ (holds : HoldsIn mem free used (held a line ∷ [])) where
    abbrev b : ℕ
    b = (node_at mem a).nested

    abbrev c : ℕ
    c = (node_at mem b).nested

    at-line : Linked mem a line
    at-line = holds.carried.0

    at-sheet : Linked mem b sheet
    at-sheet = at-line.4

    at-card : Linked mem c card
    at-card = at-sheet.4

    -- the three nodes are three
    b-not-a : b ≢ a
    b-not-a = other-node mem b a sheet line at-sheet at-line (λ e. omega (arith, e))

    c-not-a : c ≢ a
    c-not-a = other-node mem c a card line at-card at-line (λ e. omega (arith, e))

    c-not-b : c ≢ b
    c-not-b = other-node mem c b card sheet at-card at-sheet (λ e. omega (arith, e))

    -- they are reached, and no other
    reached-a : Reached mem (a ∷ []) a
    reached-a = owned a (omega (arith, same_self a))

    reached-b : Reached mem (a ∷ []) b
    reached-b = linked a b reached-a (omega (arith, same_self b))

    reached-c : Reached mem (a ∷ []) c
    reached-c = linked b c reached-b (omega (arith, same_self c))

    abbrev OneOf : ℕ → Type 0
    OneOf n = (n ≡ a) ⊎ ((n ≡ b) ⊎ (n ≡ c))

    onward : (i n : ℕ) → 0 < n → OneOf i → 0 < links n (node_at mem i) → OneOf n
    onward i n h (inl e) some = inr (inl (nested-only (node_at mem a) n h at-line.5 at-line.6 (subst (λ (j : ℕ). 0 < links n (node_at mem j)) e some)))
    onward i n h (inr (inl e)) some = inr (inr (nested-only (node_at mem b) n h at-sheet.5 at-sheet.6 (subst (λ (j : ℕ). 0 < links n (node_at mem j)) e some)))
    onward i n h (inr (inr e)) some =
        absurd (omega (arith, h, at-card.4, nested-only (node_at mem c) n h at-card.5 at-card.6 (subst (λ (j : ℕ). 0 < links n (node_at mem j)) e some)))

    no_other : (n : ℕ) → 0 < n → Reached mem (a ∷ []) n → OneOf n
    no_other n h (owned i some) =
        elim (cases_eq i a) [
          | inl e ↦ inl e
          | inr ne ↦ absurd (omega (arith, some, same-other i a ne))
        ]
    no_other n h (linked i j r some) =
        elim (cases_eq i 0) [
          | inl e ↦ absurd (omega (arith, some, ap (λ (q : ℕ). links j (node_at mem q)) e, ap (links j) (node-free mem), no-links j 0 h))
          | inr ne ↦ onward i j h (no_other i (omega (arith, ne)) r) some
        ]

    -- the memory without the line's node, without the sheet's, and without the card's
    abbrev without_line : List Node
    without_line = set mem (a - 1) (free_node 0)

    abbrev without_sheet : List Node
    without_sheet = set without_line (b - 1) (free_node 0)

    abbrev without_card : List Node
    without_card = set without_sheet (c - 1) (free_node 0)

    abbrev Free : List Node → ℕ → Type 0
    Free nodes n = (next : ℕ) × (node_at nodes n ≡ free_node next)

    written : (nodes : List Node) (i n : ℕ) → 0 < i → i ≤ length nodes → (n ≢ i → Free nodes n) → Free (set nodes (i - 1) (free_node 0)) n
    written nodes i n h within rest =
        elim (cases_eq n i) [
          | inl e ↦ (0, ap (node_at (set nodes (i - 1) (free_node 0))) e ∙ node-written nodes i (free_node 0) h within)
          | inr ne ↦ let (next, is) = rest ne in (next, node_kept nodes i n (free_node 0) h ne ∙ is)
        ]

    used-in : (n : ℕ) → 0 < n → Reached mem (a ∷ []) n → 0 < (node_at mem n).count
    used-in = reached-used mem free used (a ∷ []) holds.sound

    -- the sheet's node is in use also without the line's, and the card's also without both
    sheet-used : 0 < (node_at without_line b).count
    sheet-used = subst (λ (x : Node). 0 < x.count) (sym (node_kept mem a b (free_node 0) at-line.0 b-not-a)) (used-in b at-sheet.0 reached-b)

    card-used : 0 < (node_at without_sheet c).count
    card-used =
        subst (λ (x : Node). 0 < x.count)
        (sym (node_kept without_line b c (free_node 0) at-sheet.0 c-not-b ∙ node_kept mem a c (free_node 0) at-line.0 c-not-a))
        (used-in c at-card.0 reached-c)

    -- without the three, all nodes are free
    free-elsewhere : (n : ℕ) → 0 < n → n ≤ length mem → n ≢ a → n ≢ b → n ≢ c → Free mem n
    free-elsewhere n h within not-a not-b not-c =
        elim (cases_eq (node_at mem n).count 0) [
          | inl z ↦ free-node mem free used (a ∷ []) holds.sound n h within z
          | inr ne ↦ absurd (one (no_other n h (used-reached mem free used (a ∷ []) holds.sound n (omega (arith, ne)))))
        ]
      where
        one : OneOf n → ⊥
        one (inl e) = not-a e
        one (inr (inl e)) = not-b e
        one (inr (inr e)) = not-c e

    all-free : (n : ℕ) → 0 < n → n ≤ length without_card → Free without_card n
    all-free n h within =
        written without_sheet c n at-card.0 (used-within without_sheet c card-used) (λ not-c.
        written without_line b n at-sheet.0 (used-within without_line b sheet-used) (λ not-b.
        written mem a n at-line.0 (used-within mem a (used-in a at-line.0 reached-a)) (λ not-a.
        free-elsewhere n h
        (omega (arith, within, length-set without_sheet (c - 1) (free_node 0), length-set without_line (b - 1) (free_node 0), length-set mem (a - 1) (free_node 0)))
        not-a not-b not-c)))

    pub three-used : used ≡ 3
    three-used =
        omega (
          arith,
          holds.sound.tallied,
          less-one mem a at-line.0 (used-in a at-line.0 reached-a),
          less-one without_line b at-sheet.0 sheet-used,
          less-one without_sheet c at-card.0 card-used,
          sum-free without_card busy (λ next. busy-free (free_node next) refl) all-free,
        )
