-- A tree of ascending keys has no more items than the pool has nodes: each item stands in a node of its own.
use Rattle.std.proofs.Common.{◌≡◌, ℕ, zero, suc, ◌+◌, ◌<◌, ◌≤◌, List, [], ◌∷◌, ◌++◌, length, Less, sym, refl, ap, ◌∙◌, subst, inl, inr, arith}
use Rattle.std.proofs.ByRecursion.{All-append}
use Rattle.std.proofs.lemmas.Bool.{cases_eq}
use Rattle.std.specs.List.{AllByRecursion}
use Rattle.pool.proofs.Nodes.{used-within}
use Rattle.pool.proofs.Owners.{same-other, same_self}
use Rattle.pool.proofs.Pools.{carries-links}
use Rattle.pool.specs.Held.{CarriesIn, SoundMemory}
use Rattle.pool.specs.Node.{node_at}
use Rattle.pool.specs.Owners.{same, times}
use Rattle.pool.specs.Tree.{Tree, fork, leaf}
use Rattle.pool.specs.declared.node.Node.{Node}
use Rattle.tree.proofs.Orders.{self}
use Rattle.tree.specs.Kind.{Kind}
use Rattle.tree.specs.Shape.{Ascending, Item, items}

-- ---- a list of distinct numbers from 1 to m has at most m of them

abbrev up_to : ℕ → List ℕ → ℕ
up_to zero ns = 0
up_to (suc m) ns = times (suc m) ns + up_to m ns

up-cons : (m n : ℕ) (ns : List ℕ) → up_to m (n ∷ ns) ≡ up_to m (n ∷ []) + up_to m ns
up-cons zero n ns = omega arith
up-cons (suc m) n ns = omega (arith, up-cons m n ns)

up_one : (m n : ℕ) → 0 < n → n ≤ m → 1 ≤ up_to m (n ∷ [])
up_one zero n h k = absurd (omega arith)
up_one (suc m) n h k =
    elim (cases_eq n (suc m)) [
      | inl e ↦ omega (arith, same_self n, ap (λ (i : ℕ). same i n) e)
      | inr ne ↦ omega (arith, up_one m n h (omega (arith, k, ne)))
    ]

up-length : (m : ℕ) (ns : List ℕ) → AllByRecursion (λ n. (0 < n) × (n ≤ m)) ns → length ns ≤ up_to m ns
up-length m [] a = omega arith
up-length m (n ∷ ns) a = omega (arith, up-cons m n ns, up_one m n a.0.0 a.0.1, up-length m ns a.1)

up_le : (m : ℕ) (ns : List ℕ) → ((n : ℕ) → times n ns ≤ 1) → up_to m ns ≤ m
up_le zero ns once = omega arith
up_le (suc m) ns once = omega (arith, once (suc m), up_le m ns once)

-- ---- the nodes of the items

module _ {K : Type 0} (𝓚 : Kind K) (mem : List Node) where
  abbrev key_at : ℕ → K
  key_at n = 𝓚.key (node_at mem n).key

  -- each item has the key of its node
  abbrev Keyed : List ℕ → List (Item K) → Type 0
  Keyed [] [] = Unit {0}
  Keyed [] (x ∷ xs) = ⊥
  Keyed (n ∷ ns) [] = ⊥
  Keyed (n ∷ ns) (x ∷ xs) = (x.key ≡ key_at n) × Keyed ns xs

  keyed-length : (ns : List ℕ) (xs : List (Item K)) → Keyed ns xs → length xs ≡ length ns
  keyed-length [] [] h = refl
  keyed-length [] (x ∷ xs) h = absurd h
  keyed-length (n ∷ ns) [] h = absurd h
  keyed-length (n ∷ ns) (x ∷ xs) h = omega (arith, keyed-length ns xs h.1)

  keyed-append : (ns : List ℕ) (xs : List (Item K)) (ms : List ℕ) (ys : List (Item K)) → Keyed ns xs → Keyed ms ys → Keyed (ns ++ ms) (xs ++ ys)
  keyed-append [] [] ms ys h k = k
  keyed-append [] (x ∷ xs) ms ys h k = absurd h
  keyed-append (n ∷ ns) [] ms ys h k = absurd h
  keyed-append (n ∷ ns) (x ∷ xs) ms ys h k = (h.0, keyed-append ns xs ms ys h.1 k)

  -- a node whose key is before all items is none of theirs
  none_after : (m : ℕ) (ns : List ℕ) (xs : List (Item K)) → Keyed ns xs → AllByRecursion (λ y. 𝓚.order (key_at m) y.key ≡ Less) xs → times m ns ≡ 0
  none_after m [] [] h a = refl
  none_after m [] (x ∷ xs) h a = absurd h
  none_after m (n ∷ ns) [] h a = absurd h
  none_after m (n ∷ ns) (x ∷ xs) h a =
      elim (cases_eq m n) [
        | inl e ↦
            let less : 𝓚.order (key_at m) (key_at m) ≡ Less = subst (λ (k : K). 𝓚.order (key_at m) k ≡ Less) (h.0 ∙ ap key_at (sym e)) a.0 in
            let z : ◌≡◌ {A = ℕ} 0 1 = cc (less, self 𝓚 (key_at m)) in
            absurd (omega arith)
        | inr ne ↦ omega (arith, same-other m n ne, none_after m ns xs h.1 a.1)
      ]

  once : (m : ℕ) (ns : List ℕ) (xs : List (Item K)) → Keyed ns xs → Ascending 𝓚.order xs → times m ns ≤ 1
  once m [] [] h asc = omega arith
  once m [] (x ∷ xs) h asc = absurd h
  once m (n ∷ ns) [] h asc = absurd h
  once m (n ∷ ns) (x ∷ xs) h asc =
      elim (cases_eq m n) [
        | inl e ↦
            let first : x.key ≡ key_at m = h.0 ∙ ap key_at (sym e) in
            let rest = none_after m ns xs h.1 (subst (λ (k : K). AllByRecursion (λ y. 𝓚.order k y.key ≡ Less) xs) first asc.0) in
            omega (arith, rest, same_self m, ap (same m) e)
        | inr ne ↦ omega (arith, same-other m n ne, once m ns xs h.1 asc.1)
      ]

module _ {K : Type 0} (𝓚 : Kind K) (mem : List Node) (h : SoundMemory mem) where
  nodes : (n : ℕ) (t : Tree) → CarriesIn mem n t
      → (ns : List ℕ) × Keyed 𝓚 mem ns (items 𝓚.key t) × AllByRecursion (λ m. (0 < m) × (m ≤ length mem)) ns
  nodes n leaf c = ([], tt, tt)
  nodes n (fork key word tall nested left right) c =
      let ls = carries-links mem n key word tall nested left right h c in
      let l = nodes (node_at mem n).left left ls.by_left in
      let r = nodes (node_at mem n).right right ls.by_right in
      let q = c.linked in (
        l.0 ++ n ∷ r.0,
        keyed-append 𝓚 mem l.0 _ (n ∷ r.0) _ l.1 (ap 𝓚.key (sym q.1), r.1),
        All-append (λ m. (0 < m) × (m ≤ length mem)) l.0 (n ∷ r.0) l.2 ((q.0, used-within mem n (c.kept q.0)), r.2),
      )

  -- as many items as nodes at most
  pub few-items : (n : ℕ) (t : Tree) → CarriesIn mem n t → Ascending 𝓚.order (items 𝓚.key t) → length (items 𝓚.key t) ≤ length mem
  few-items n t c asc =
      let ns = nodes n t c in
      let m : ℕ = length mem in
      omega (
        arith,
        keyed-length 𝓚 mem ns.0 _ ns.1,
        up-length m ns.0 ns.2,
        up_le m ns.0 (λ i. once 𝓚 mem i ns.0 _ ns.1 asc),
      )

  pub few : (n : ℕ) (t : Tree) → CarriesIn mem n t → Ascending 𝓚.order (items 𝓚.key t) → length (items 𝓚.key t) ≤ 65535
  few n t c asc = omega (arith, few-items n t c asc, h.holds.sound.small)
