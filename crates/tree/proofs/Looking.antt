-- The answers on the way down a tree of ascending keys are the answers of its list of items.
use Rattle.std.proofs.Common.{◌≡◌, List, [], ◌∷◌, ◌++◌, Some, None, Option, Ordering, Less, Equal, Greater, sym, refl, ap, ◌∙◌, subst}
use Rattle.std.specs.List.{AllByRecursion}
use Rattle.tree.specs.Kind.{Kind}
use Rattle.tree.specs.Lookup.{by_order, or_else, find, at_most, after, first, last, item_at, last_at_most, first_after, first_of, last_of}
use Rattle.tree.specs.Shape.{Item, item, items, Ascending}
use Rattle.tree.proofs.Orders.{Before, Behind, around, before-all, behind-all, equal-before, equal-behind, same_key, self}
use Rattle.pool.specs.Tree.{Tree, fork, leaf}

pub or-none : {A : Type 0} (o : Option A) → or_else o None ≡ o
or-none None = refl
or-none (Some x) = refl

pub or-or : {A : Type 0} (a b c : Option A) → or_else (or_else a b) c ≡ or_else a (or_else b c)
or-or None b c = refl
or-or (Some x) b c = refl

module _ {K : Type 0} (𝓚 : Kind K) where
  -- ---- the item of a key

  at_before : (k : K) (ys : List (Item K)) → AllByRecursion (Before 𝓚 k) ys → item_at 𝓚.order k ys ≡ None
  at_before k [] h = refl
  at_before k (y ∷ ys) h = rw h.0 (at_before k ys h.1)

  at-behind : (k : K) (xs zs : List (Item K)) → AllByRecursion (Behind 𝓚 k) xs → item_at 𝓚.order k (xs ++ zs) ≡ item_at 𝓚.order k zs
  at-behind k [] zs h = refl
  at-behind k (x ∷ xs) zs h = rw (𝓚.after x.key k h.0) (at-behind k xs zs h.1)

  at_front : (k : K) (xs zs : List (Item K)) → AllByRecursion (Before 𝓚 k) zs → item_at 𝓚.order k (xs ++ zs) ≡ item_at 𝓚.order k xs
  at_front k [] zs h = at_before k zs h
  at_front k (x ∷ xs) zs h = rw (at_front k xs zs h)

  find_at : (k : K) (xs ys : List (Item K)) (x : Item K) (l r : Option (Item K)) → Ascending 𝓚.order (xs ++ x ∷ ys) → l ≡ item_at 𝓚.order k xs → r ≡ item_at 𝓚.order k ys
      → (o : Ordering) → 𝓚.order k x.key ≡ o → by_order o l (Some x) r ≡ item_at 𝓚.order k (xs ++ x ∷ ys)
  find_at k xs ys x l r asc p q Less e =
      let a = around 𝓚 xs x ys asc in p ∙ sym (at_front k xs (x ∷ ys) (e, before-all 𝓚 k x ys e a.above))
  find_at k xs ys x l r asc p q Equal e =
      let a = around 𝓚 xs x ys asc in sym (at-behind k xs (x ∷ ys) (equal-behind 𝓚 k x xs e a.below) ∙ rw e)
  find_at k xs ys x l r asc p q Greater e =
      let a = around 𝓚 xs x ys asc in q ∙ sym (at-behind k xs (x ∷ ys) (behind-all 𝓚 k x xs e a.below) ∙ rw e)

  pub find-items : (k : K) (t : Tree) → Ascending 𝓚.order (items 𝓚.key t) → find 𝓚.key 𝓚.order k t ≡ item_at 𝓚.order k (items 𝓚.key t)
  unfolding find
  find-items k leaf asc = refl
  find-items k (fork words word tall nested left right) asc =
      let xs : List (Item K) = items 𝓚.key left in
      let ys : List (Item K) = items 𝓚.key right in
      let x : Item K = item (𝓚.key words) word nested in
      let a = around 𝓚 xs x ys asc in
      find_at k xs ys x _ _ asc (find-items k left a.front) (find-items k right a.back) (𝓚.order k (𝓚.key words)) refl

  -- ---- the greatest key at most k

  most-before : (k : K) (ys : List (Item K)) → AllByRecursion (Before 𝓚 k) ys → last_at_most 𝓚.order k ys ≡ None
  most-before k [] h = refl
  most-before k (y ∷ ys) h = rw (𝓚.after k y.key h.0, most-before k ys h.1)

  most-append : (k : K) (xs zs : List (Item K)) → last_at_most 𝓚.order k (xs ++ zs) ≡ or_else (last_at_most 𝓚.order k zs) (last_at_most 𝓚.order k xs)
  most-append k [] zs = sym (or-none (last_at_most 𝓚.order k zs))
  most-append k (x ∷ xs) zs = rw (most-append k xs zs) (or-or (last_at_most 𝓚.order k zs) (last_at_most 𝓚.order k xs) _)

  most-at : (k : K) (xs ys : List (Item K)) (x : Item K) (l r : Option (Item K)) → Ascending 𝓚.order (xs ++ x ∷ ys) → l ≡ last_at_most 𝓚.order k xs → r ≡ last_at_most 𝓚.order k ys
      → (o : Ordering) → 𝓚.order k x.key ≡ o → by_order o l (Some x) (or_else r (Some x)) ≡ last_at_most 𝓚.order k (xs ++ x ∷ ys)
  most-at k xs ys x l r asc p q Less e =
      let a = around 𝓚 xs x ys asc in
      p ∙ sym (most-append k xs (x ∷ ys) ∙ rw (most-before k (x ∷ ys) (e, before-all 𝓚 k x ys e a.above)))
  most-at k xs ys x l r asc p q Equal e =
      let a = around 𝓚 xs x ys asc in
      let here : 𝓚.order x.key k ≡ Equal = subst (λ (b : K). 𝓚.order b k ≡ Equal) (same_key 𝓚 k x.key e) (self 𝓚 k) in
      sym (most-append k xs (x ∷ ys) ∙ rw (most-before k ys (equal-before 𝓚 k x ys e a.above), here))
  most-at k xs ys x l r asc p q Greater e =
      let here = 𝓚.before k x.key e in
      sym (most-append k xs (x ∷ ys) ∙ rw here (ap (λ (o : Option (Item K)). or_else o (last_at_most 𝓚.order k xs)) (ap (λ (o : Option (Item K)). or_else o (Some x)) (sym q)) ∙ or_some r x (last_at_most 𝓚.order k xs)))
    where
      or_some : (o : Option (Item K)) (y : Item K) (z : Option (Item K)) → or_else (or_else o (Some y)) z ≡ or_else o (Some y)
      or_some None y z = refl
      or_some (Some w) y z = refl

  pub at_most-items : (k : K) (t : Tree) → Ascending 𝓚.order (items 𝓚.key t) → at_most 𝓚.key 𝓚.order k t ≡ last_at_most 𝓚.order k (items 𝓚.key t)
  unfolding at_most
  at_most-items k leaf asc = refl
  at_most-items k (fork words word tall nested left right) asc =
      let xs : List (Item K) = items 𝓚.key left in
      let ys : List (Item K) = items 𝓚.key right in
      let x : Item K = item (𝓚.key words) word nested in
      let a = around 𝓚 xs x ys asc in
      most-at k xs ys x _ _ asc (at_most-items k left a.front) (at_most-items k right a.back) (𝓚.order k (𝓚.key words)) refl

  -- ---- the least key after k

  after-behind : (k : K) (xs zs : List (Item K)) → AllByRecursion (Behind 𝓚 k) xs → first_after 𝓚.order k (xs ++ zs) ≡ first_after 𝓚.order k zs
  after-behind k [] zs h = refl
  after-behind k (x ∷ xs) zs h = rw (𝓚.after x.key k h.0) (after-behind k xs zs h.1)

  after-append : (k : K) (xs zs : List (Item K)) → first_after 𝓚.order k (xs ++ zs) ≡ or_else (first_after 𝓚.order k xs) (first_after 𝓚.order k zs)
  after-append k [] zs = refl
  after-append k (x ∷ xs) zs = rw (after-append k xs zs) (by-or (𝓚.order k x.key))
    where
      by-or : (o : Ordering) → by_order o (Some x) (or_else (first_after 𝓚.order k xs) (first_after 𝓚.order k zs)) (or_else (first_after 𝓚.order k xs) (first_after 𝓚.order k zs)) ≡ or_else (by_order o (Some x) (first_after 𝓚.order k xs) (first_after 𝓚.order k xs)) (first_after 𝓚.order k zs)
      by-or Less = refl
      by-or Equal = refl
      by-or Greater = refl

  after-at : (k : K) (xs ys : List (Item K)) (x : Item K) (l r : Option (Item K)) → Ascending 𝓚.order (xs ++ x ∷ ys) → l ≡ first_after 𝓚.order k xs → r ≡ first_after 𝓚.order k ys
      → (o : Ordering) → 𝓚.order k x.key ≡ o → by_order o (or_else l (Some x)) r r ≡ first_after 𝓚.order k (xs ++ x ∷ ys)
  after-at k xs ys x l r asc p q Less e = rw p (sym (after-append k xs (x ∷ ys) ∙ rw e))
  after-at k xs ys x l r asc p q Equal e =
      let a = around 𝓚 xs x ys asc in q ∙ sym (after-behind k xs (x ∷ ys) (equal-behind 𝓚 k x xs e a.below) ∙ rw e)
  after-at k xs ys x l r asc p q Greater e =
      let a = around 𝓚 xs x ys asc in q ∙ sym (after-behind k xs (x ∷ ys) (behind-all 𝓚 k x xs e a.below) ∙ rw e)

  pub after_items : (k : K) (t : Tree) → Ascending 𝓚.order (items 𝓚.key t) → after 𝓚.key 𝓚.order k t ≡ first_after 𝓚.order k (items 𝓚.key t)
  unfolding after
  after_items k leaf asc = refl
  after_items k (fork words word tall nested left right) asc =
      let xs : List (Item K) = items 𝓚.key left in
      let ys : List (Item K) = items 𝓚.key right in
      let x : Item K = item (𝓚.key words) word nested in
      let a = around 𝓚 xs x ys asc in
      after-at k xs ys x _ _ asc (after_items k left a.front) (after_items k right a.back) (𝓚.order k (𝓚.key words)) refl

  -- ---- the ends

  first-append : {A : Type 0} (xs zs : List A) → first_of (xs ++ zs) ≡ or_else (first_of xs) (first_of zs)
  first-append [] zs = refl
  first-append (x ∷ xs) zs = refl

  last-append : {A : Type 0} (xs zs : List A) → last_of (xs ++ zs) ≡ or_else (last_of zs) (last_of xs)
  last-append [] zs = sym (or-none (last_of zs))
  last-append (x ∷ xs) zs = rw (last-append xs zs) (or-or (last_of zs) (last_of xs) (Some x))

  pub first-items : (t : Tree) → first 𝓚.key 𝓚.order t ≡ first_of (items 𝓚.key t)
  unfolding first
  first-items leaf = refl
  first-items (fork words word tall nested left right) =
      rw (first-items left) (sym (first-append (items 𝓚.key left) _))

  or-last : {A : Type 0} (o : Option A) (y : A) (z : Option A) → or_else (or_else o (Some y)) z ≡ or_else o (Some y)
  or-last None y z = refl
  or-last (Some w) y z = refl

  pub last-items : (t : Tree) → last 𝓚.key 𝓚.order t ≡ last_of (items 𝓚.key t)
  unfolding last
  last-items leaf = refl
  last-items (fork words word tall nested left right) =
      rw (last-items right) (sym (last-append (items 𝓚.key left) _ ∙ or-last (last_of (items 𝓚.key right)) _ _))
