-- The walk over a range of keys gives what the list of items has in the range, and its sums stay within 64 bits.
use Rattle.std.proofs.Common.{◌≡◌, ℕ, ◌+◌, ◌*◌, ◌<◌, ◌≤◌, Bool, true, false, cond, ◌&&◌, List, [], ◌∷◌, ◌++◌, length, pos, ◌+ℤ◌, ◌≤ℤ◌, filter, Ordering, Less, Equal, Greater, sym, refl, ap, ◌∙◌, subst, arith, length-append}
use Rattle.std.proofs.lemmas.List.Elements.{filter-append}
use Rattle.std.proofs.ByRecursion.{All-append}
use Rattle.std.proofs.lemmas.Int.{ints}
use Rattle.std.specs.Ordering.{is_le, is_lt}
use Rattle.std.specs.List.{AllByRecursion}
use Rattle.tree.specs.Kind.{Kind}
use Rattle.tree.specs.Range.{Modest, Totals, inside, sum_of, walk, within}
use Rattle.tree.specs.Shape.{Ascending, Balanced, Item, item, items}
use Rattle.tree.specs.Totals.{Fits}
use Rattle.tree.specs.declared.range.Total.{Total}
use Rattle.tree.proofs.Orders.{Before, Behind, around, before-all, behind-all, equal-before, equal-behind, same_key, self}
use Rattle.tree.proofs.Counting.{few}
use Rattle.tree.proofs.Descent.{by-node, by-none, left-falls, parted, right-falls, stored-height}
use Rattle.pool.specs.Held.{CarriesIn, CarriesLinksIn, SoundMemory}
use Rattle.pool.specs.Node.{node_at}
use Rattle.pool.specs.Tree.{Tree, fork, fork_of, leaf}
use Rattle.pool.specs.declared.node.Node.{Node}
use Rattle.pool.specs.declared.node.Words.{Words}

-- ---- sums

pub sum-append : {K : Type 0} (xs ys : List (Item K)) → sum_of (xs ++ ys) ≡ sum_of xs +ℤ sum_of ys
sum-append [] ys = omega (arith, ints)
sum-append (x ∷ xs) ys = omega (arith, ints, sum-append xs ys)

-- so few items, with such words, that no sum of them leaves 64 bits
record Summable {K : Type 0} (xs : List (Item K)) : Type 0 where
  few : length xs ≤ 65535
  modest : AllByRecursion Modest xs

module _ {K : Type 0} where
  all_split : (P : Item K → Type 0) (xs ys : List (Item K)) → AllByRecursion P (xs ++ ys) → AllByRecursion P xs × AllByRecursion P ys
  all_split P [] ys h = (tt, h)
  all_split P (x ∷ xs) ys h = let (a, b) = all_split P xs ys h.1 in ((h.0, a), b)

  summable-back : (xs ys : List (Item K)) → Summable (xs ++ ys) → Summable ys
  summable-back xs ys s = record { few = omega (arith, s.few, length-append xs ys); modest = (all_split Modest xs ys s.modest).1 }

  sum-above : (xs : List (Item K)) → AllByRecursion Modest xs → pos 0 ≤ℤ (sum_of xs +ℤ pos (length xs * 1_000_000_000_000))
  sum-above [] h = omega (arith, ints)
  sum-above (x ∷ xs) h = omega (arith, ints, sum-above xs h.1, h.0.0)

  sum_below : (xs : List (Item K)) → AllByRecursion Modest xs → sum_of xs ≤ℤ pos (length xs * 1_000_000_000_000)
  sum_below [] h = omega (arith, ints)
  sum_below (x ∷ xs) h = omega (arith, ints, sum_below xs h.1, h.0.1)

  -- the totals of two lists are those of both together, and fit
  plus-fits : (xs ys : List (Item K)) (a b : Total) → Summable (xs ++ ys) → Totals xs a → Totals ys b → Fits a b
  plus-fits xs ys a b s p q =
      let e = sum-append xs ys in
      record {
        counted = omega (arith, s.few, length-append xs ys, p.count_is, q.count_is);
        above = omega (arith, ints, s.few, e, p.sum_is, q.sum_is, sum-above (xs ++ ys) s.modest);
        below = omega (arith, ints, s.few, e, p.sum_is, q.sum_is, sum_below (xs ++ ys) s.modest);
      }

  plus-totals : (xs ys : List (Item K)) (a b r : Total) → Totals xs a → Totals ys b → r.count ≡ a.count + b.count → r.sum ≡ a.sum +ℤ b.sum
      → Totals (xs ++ ys) r
  plus-totals xs ys a b r p q c s =
      record {
        count_is = omega (arith, c, p.count_is, q.count_is, length-append xs ys);
        sum_is = omega (arith, ints, s, p.sum_is, q.sum_is, sum-append xs ys);
      }

  pub none-totals : (r : Total) → r.count ≡ 0 → r.sum ≡ pos 0 → Totals {K = K} [] r
  none-totals r c s = record { count_is = c; sum_is = s }

-- ---- a part of the walk, or nothing

if-length : {A : Type 0} (b : Bool) (xs : List A) → length (cond b xs []) ≤ length xs
if-length true xs = omega arith
if-length false xs = omega arith

if-all : {A : Type 0} (P : A → Type 0) (b : Bool) (xs : List A) → AllByRecursion P xs → AllByRecursion P (cond b xs [])
if-all P true xs h = h
if-all P false xs h = tt

module _ {K : Type 0} (order : K → K → Ordering) (key : Words → K) (low high : K) where
  walk-length : (t : Tree) → length (walk order key low high t) ≤ length (items key t)
  unfolding walk
  walk-length leaf = omega arith
  walk-length (fork words word tall nested left right) =
      let k : K = key words in
      let x : Item K = item k word nested in
      let L : List (Item K) = walk order key low high left in
      let R : List (Item K) = walk order key low high right in
      omega (
        arith,
        length-append (cond (is_lt (order low k)) L []) (cond (inside order low high k) (x ∷ []) [] ++ cond (is_lt (order k high)) R []),
        length-append (cond (inside order low high k) (x ∷ []) []) (cond (is_lt (order k high)) R []),
        length-append (items key left) (x ∷ items key right),
        if-length (is_lt (order low k)) L,
        if-length (inside order low high k) (x ∷ []),
        if-length (is_lt (order k high)) R,
        walk-length left,
        walk-length right,
      )

  walk-all : (P : Item K → Type 0) (t : Tree) → AllByRecursion P (items key t) → AllByRecursion P (walk order key low high t)
  unfolding walk
  walk-all P leaf h = tt
  walk-all P (fork words word tall nested left right) h =
      let k : K = key words in
      let x : Item K = item k word nested in
      let (a, b) = all_split P (items key left) (x ∷ items key right) h in
      All-append P _ _ (if-all P (is_lt (order low k)) _ (walk-all P left a))
      (All-append P _ _ (if-all P (inside order low high k) (x ∷ []) (b.0, tt)) (if-all P (is_lt (order k high)) _ (walk-all P right b.1)))

  walk-summable : (t : Tree) → length (items key t) ≤ 65535 → AllByRecursion Modest (items key t) → Summable (walk order key low high t)
  walk-summable t n m = record { few = omega (arith, n, walk-length t); modest = walk-all Modest t m }

-- ---- at a node

-- a link that is left out carries the leaf
link-carries : (mem : List Node) (b : Bool) (m l : ℕ) (u : Tree) → l ≡ cond b m 0 → CarriesIn mem m u → CarriesIn mem l (cond b u leaf)
link-carries mem true m l u e c = subst (λ (i : ℕ). CarriesIn mem i u) (sym e) c
link-carries mem false m l u e c = subst (λ (i : ℕ). CarriesIn mem i leaf) (sym e) (record { kept = λ h. absurd (omega arith); linked = refl })

module _ {K : Type 0} (𝓚 : Kind K) (low high : K) where
  -- what is asked of the tree
  abbrev Asked : Tree → Type 0
  Asked t = Balanced t × Ascending 𝓚.order (items 𝓚.key t) × AllByRecursion Modest (items 𝓚.key t)

  -- the node m carries a tree lower than t, as is asked
  pub record Lower (mem : List Node) (t m : ℕ) : Type 0 where
    pub falls : (node_at mem m).height < t
    pub carried : (u : Tree) × CarriesIn mem m u × Asked u

  lower : (mem : List Node) (t m l : ℕ) (b : Bool) (u : Tree) → l ≡ cond b m 0 → CarriesIn mem m u → (node_at mem m).height < t → Asked u → Lower mem t l
  lower mem t m l true u e c f asked =
      record { falls = subst (λ (i : ℕ). (node_at mem i).height < t) (sym e) f; carried = (u, link-carries mem true m l u e c, asked) }
  lower mem t m l false u e c f asked =
      let d = link-carries mem false m l u e c in record { falls = omega (arith, f, stored-height mem l leaf d); carried = (leaf, d, (tt, tt, tt)) }

  walk-side : (b : Bool) (u : Tree) → walk 𝓚.order 𝓚.key low high (cond b u leaf) ≡ cond b (walk 𝓚.order 𝓚.key low high u) []
  unfolding walk
  walk-side true u = refl
  walk-side false u = refl

  -- whether the left and the right side of the node x are walked
  abbrev pub goes_left : Node → Bool
  goes_left x = is_lt (𝓚.order low (𝓚.key x.key))

  abbrev pub goes_right : Node → Bool
  goes_right x = is_lt (𝓚.order (𝓚.key x.key) high)

  -- the three parts of the walk at the node x
  abbrev pub front : Node → Tree → List (Item K)
  front x left = cond (goes_left x) (walk 𝓚.order 𝓚.key low high left) []

  abbrev pub here : Node → Tree → List (Item K)
  here x nested = cond (inside 𝓚.order low high (𝓚.key x.key)) (item (𝓚.key x.key) x.word nested ∷ []) []

  abbrev pub back : Node → Tree → List (Item K)
  back x right = cond (goes_right x) (walk 𝓚.order 𝓚.key low high right) []

  -- the totals of the three parts
  pub record Parts (mem : List Node) (x : Node) (below own above : Total) : Type 0 where
    pub by_front : (left : Tree) → CarriesIn mem x.left left → Totals (front x left) below
    pub by-own : (nested : Tree) → Totals (here x nested) own
    pub by-back : (right : Tree) → CarriesIn mem x.right right → Totals (back x right) above

  -- from the totals of the two links that are walked
  pub parts : (mem : List Node) (x : Node) (l r : ℕ) (below own above : Total) → l ≡ cond (goes_left x) x.left 0 → r ≡ cond (goes_right x) x.right 0
      → ((u : Tree) → CarriesIn mem l u → Totals (walk 𝓚.order 𝓚.key low high u) below) → ((nested : Tree) → Totals (here x nested) own)
      → ((u : Tree) → CarriesIn mem r u → Totals (walk 𝓚.order 𝓚.key low high u) above) → Parts mem x below own above
  parts mem x l r below own above le re f o b =
      record {
        by_front = λ left c. subst (λ (xs : List (Item K)). Totals xs below) (walk-side (goes_left x) left) (f _ (link-carries mem (goes_left x) x.left l left le c));
        by-own = o;
        by-back = λ right c. subst (λ (xs : List (Item K)). Totals xs above) (walk-side (goes_right x) right) (b _ (link-carries mem (goes_right x) x.right r right re c));
      }

  pub walk_none : (mem : List Node) (n : ℕ) → n ≡ 0 → (r : Total) → Totals {K = K} [] r → (t : Tree) → CarriesIn mem n t → Totals (walk 𝓚.order 𝓚.key low high t) r
  unfolding walk
  walk_none mem n z r none = by-none mem n z (λ t. Totals (walk 𝓚.order 𝓚.key low high t) r) none

  module _ (mem : List Node) (h : SoundMemory mem) (n : ℕ) (numbered : 0 < n) (x : Node) (is : x ≡ node_at mem n) where
    abbrev Some : Type 0
    Some = (t : Tree) × CarriesIn mem n t × Asked t

    opened : Some → (nested : Tree) × (left : Tree) × (right : Tree) × CarriesLinksIn mem x nested left right
        × (Balanced (fork_of x nested left right) × Asked left × Asked right)
    opened some =
        let (nested, left, right, ls, asked) = parted mem h n numbered x is Asked some in
        let a = around 𝓚 (items 𝓚.key left) (item (𝓚.key x.key) x.word nested) (items 𝓚.key right) asked.1 in
        let m = all_split Modest (items 𝓚.key left) (item (𝓚.key x.key) x.word nested ∷ items 𝓚.key right) asked.2 in
        (nested, left, right, ls, (asked.0, (asked.0.3, a.front, m.0), (asked.0.4, a.back, m.1.1)))

    pub to_front : (t : ℕ) → (node_at mem n).height ≡ t → (l : ℕ) → l ≡ cond (goes_left x) x.left 0 → Some → Lower mem t l
    to_front t measured l e some =
        let (nested, left, right, ls, asked) = opened some in
        lower mem t x.left l (goes_left x) left e ls.by_left (left-falls mem h n numbered x is t measured nested left right ls asked.0) asked.1

    pub to_back : (t : ℕ) → (node_at mem n).height ≡ t → (r : ℕ) → r ≡ cond (goes_right x) x.right 0 → Some → Lower mem t r
    to_back t measured r e some =
        let (nested, left, right, ls, asked) = opened some in
        lower mem t x.right r (goes_right x) right e ls.by_right (right-falls mem h n numbered x is t measured nested left right ls asked.0) asked.2

    summed : Some → (nested : Tree) × (left : Tree) × (right : Tree) × CarriesLinksIn mem x nested left right × Summable (front x left ++ (here x nested ++ back x right))
    unfolding walk
    summed (t, c, asked) =
        parted mem h n numbered x is (λ u. Summable (walk 𝓚.order 𝓚.key low high u))
        (t, c, walk-summable 𝓚.order 𝓚.key low high t (few 𝓚 mem h n t c asked.1) asked.2)

    module _ (below own above : Total) (parts : Parts mem x below own above) where
      -- the node's own total and the total above fit, and so do both with the total below
      pub inner-fits : Some → Fits own above
      inner-fits some =
          let (nested, left, right, ls, s) = summed some in
          plus-fits (here x nested) (back x right) own above (summable-back (front x left) _ s) (parts.by-own nested) (parts.by-back right ls.by_right)

      module _ (inner : Total) (count : inner.count ≡ own.count + above.count) (sum : inner.sum ≡ own.sum +ℤ above.sum) where
        inner-totals : (nested right : Tree) → CarriesIn mem x.right right → Totals (here x nested ++ back x right) inner
        inner-totals nested right c = plus-totals (here x nested) (back x right) own above inner (parts.by-own nested) (parts.by-back right c) count sum

        pub outer-fits : Some → Fits below inner
        outer-fits some =
            let (nested, left, right, ls, s) = summed some in
            plus-fits (front x left) (here x nested ++ back x right) below inner s (parts.by_front left ls.by_left) (inner-totals nested right ls.by_right)

        pub walk-totals : (r : Total) → r.count ≡ below.count + inner.count → r.sum ≡ below.sum +ℤ inner.sum
            → (t : Tree) → CarriesIn mem n t → Totals (walk 𝓚.order 𝓚.key low high t) r
        unfolding walk
        walk-totals r c s =
            by-node mem h n numbered x is (λ t. Totals (walk 𝓚.order 𝓚.key low high t) r) (λ nested left right ls.
            plus-totals (front x left) (here x nested ++ back x right) below inner r (parts.by_front left ls.by_left) (inner-totals nested right ls.by_right) c s)

-- ---- the walk and the list

module _ {K : Type 0} (𝓚 : Kind K) (low high : K) where
  -- nothing before the range, and nothing behind it
  none-behind : (xs : List (Item K)) → AllByRecursion (Behind 𝓚 low) xs → within 𝓚.order low high xs ≡ []
  none-behind [] h = refl
  none-behind (x ∷ xs) h = rw (𝓚.after x.key low h.0) (none-behind xs h.1)

  test-false : (a b : Bool) → b ≡ false → a && b ≡ false
  test-false true b e = e
  test-false false b e = refl

  none_before : (ys : List (Item K)) → AllByRecursion (Before 𝓚 high) ys → within 𝓚.order low high ys ≡ []
  none_before [] h = refl
  none_before (y ∷ ys) h =
      let e : inside 𝓚.order low high y.key ≡ false = test-false (is_le (𝓚.order low y.key)) _ (ap is_le (𝓚.after high y.key h.0)) in
      rw e (none_before ys h.1)

  front-part : (x : Item K) (xs ws : List (Item K)) → AllByRecursion (Behind 𝓚 x.key) xs → ws ≡ within 𝓚.order low high xs
      → (o : Ordering) → 𝓚.order low x.key ≡ o → cond (is_lt o) ws [] ≡ within 𝓚.order low high xs
  front-part x xs ws b p Less e = p
  front-part x xs ws b p Equal e = sym (none-behind xs (equal-behind 𝓚 low x xs e b))
  front-part x xs ws b p Greater e = sym (none-behind xs (behind-all 𝓚 low x xs e b))

  back-part : (x : Item K) (ys ws : List (Item K)) → AllByRecursion (Before 𝓚 x.key) ys → ws ≡ within 𝓚.order low high ys
      → (o : Ordering) → 𝓚.order x.key high ≡ o → cond (is_lt o) ws [] ≡ within 𝓚.order low high ys
  back-part x ys ws b p Less e = p
  back-part x ys ws b p Equal e =
      let s : 𝓚.order high x.key ≡ Equal = subst (λ (a : K). 𝓚.order a x.key ≡ Equal) (same_key 𝓚 x.key high e) (self 𝓚 x.key) in
      sym (none_before ys (equal-before 𝓚 high x ys s b))
  back-part x ys ws b p Greater e = sym (none_before ys (before-all 𝓚 high x ys (𝓚.before x.key high e) b))

  own-part : (b : Bool) (x : Item K) (ys : List (Item K)) → cond b (x ∷ []) [] ++ ys ≡ cond b (x ∷ ys) ys
  own-part true x ys = refl
  own-part false x ys = refl

  pub walk-items : (t : Tree) → Ascending 𝓚.order (items 𝓚.key t) → walk 𝓚.order 𝓚.key low high t ≡ within 𝓚.order low high (items 𝓚.key t)
  unfolding walk
  walk-items leaf asc = refl
  walk-items (fork words word tall nested left right) asc =
      let xs : List (Item K) = items 𝓚.key left in
      let ys : List (Item K) = items 𝓚.key right in
      let x : Item K = item (𝓚.key words) word nested in
      let a = around 𝓚 xs x ys asc in
      let test : Item K → Bool = λ y. inside 𝓚.order low high y.key in
      let front = front-part x xs _ a.below (walk-items left a.front) (𝓚.order low x.key) refl in
      let back = back-part x ys _ a.above (walk-items right a.back) (𝓚.order x.key high) refl in
      rw (front, back) (ap (λ (zs : List (Item K)). filter test xs ++ zs) (own-part (test x) x (filter test ys)) ∙ sym (filter-append test xs (x ∷ ys)))

  pub walk-listed : (mem : List Node) (n : ℕ) (r : Total) → ((t : Tree) → CarriesIn mem n t → Totals (walk 𝓚.order 𝓚.key low high t) r)
      → (t : Tree) → CarriesIn mem n t → Ascending 𝓚.order (items 𝓚.key t) → Totals (within 𝓚.order low high (items 𝓚.key t)) r
  walk-listed mem n r a t c asc = subst (λ (xs : List (Item K)). Totals xs r) (walk-items t asc) (a t c)
