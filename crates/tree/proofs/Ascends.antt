-- Ascending lists: how they are cut in two at an item, and what a list keeps when a key is put in or left out.
use Rattle.std.proofs.Common.{◌≡◌, List, [], ◌∷◌, ◌++◌, ℤ, Ordering, Less, Equal, Greater, sym, refl, ap, ◌∙◌}
use Rattle.std.proofs.ByRecursion.{All-weaker}
use Rattle.std.specs.List.{AllByRecursion}
use Rattle.pool.specs.Tree.{Tree}
use Rattle.tree.proofs.Steps.{by-order, put_in-equal, put_in-greater, put_in-less, without-equal, without-greater, without-less}
use Rattle.tree.specs.Kind.{Kind}
use Rattle.tree.specs.Listed.{put_in, without}
use Rattle.tree.specs.Shape.{Ascending, Item, item}

-- an ascending list, cut at one of its items
pub record Cut {K : Type 0} (order : K → K → Ordering) (xs : List (Item K)) (y : Item K) (ys : List (Item K)) : Type 0 where
  pub front : Ascending order xs
  pub lower : AllByRecursion (λ x. order x.key y.key ≡ Less) xs
  pub higher : AllByRecursion (λ z. order y.key z.key ≡ Less) ys
  pub back : Ascending order ys

pub all-front : {X : Type 0} (P : X → Type 0) (xs ys : List X) → AllByRecursion P (xs ++ ys) → AllByRecursion P xs
all-front P [] ys h = tt
all-front P (x ∷ xs) ys h = (h.0, all-front P xs ys h.1)

pub all_back : {X : Type 0} (P : X → Type 0) (xs ys : List X) → AllByRecursion P (xs ++ ys) → AllByRecursion P ys
all_back P [] ys h = h
all_back P (x ∷ xs) ys h = all_back P xs ys h.1

module _ {K : Type 0} (order : K → K → Ordering) where
  pub ascending-cut : (xs : List (Item K)) (y : Item K) (ys : List (Item K)) → Ascending order (xs ++ y ∷ ys) → Cut order xs y ys
  ascending-cut [] y ys h = record { front = tt; lower = tt; higher = h.0; back = h.1 }
  ascending-cut (x ∷ xs) y ys h =
      let c = ascending-cut xs y ys h.1 in
      record {
        front = (all-front (λ z. order x.key z.key ≡ Less) xs (y ∷ ys) h.0, c.front);
        lower = ((all_back (λ z. order x.key z.key ≡ Less) xs (y ∷ ys) h.0).0, c.lower);
        higher = c.higher;
        back = c.back;
      }

module _ {K : Type 0} (𝓚 : Kind K) where
  -- equal in the order is equal
  pub equal-keys : (a b : K) → 𝓚.order a b ≡ Equal → a ≡ b
  equal-keys a b e = sym (𝓚.back a) ∙ ap 𝓚.key (𝓚.same a b e) ∙ 𝓚.back b

  -- what is before y is before each k at or after y
  pub after_lower : (k : K) (y : Item K) (xs : List (Item K)) → 𝓚.order k y.key ≡ Greater → AllByRecursion (λ x. 𝓚.order x.key y.key ≡ Less) xs
      → AllByRecursion (λ x. 𝓚.order k x.key ≡ Greater) xs
  after_lower k y xs e =
      All-weaker _ _ (λ x h. 𝓚.after x.key k (𝓚.chained x.key y.key k h (𝓚.before k y.key e))) xs

  pub after-lower-equal : (k : K) (y : Item K) (xs : List (Item K)) → 𝓚.order k y.key ≡ Equal
      → AllByRecursion (λ x. 𝓚.order x.key y.key ≡ Less) xs → AllByRecursion (λ x. 𝓚.order k x.key ≡ Greater) xs
  after-lower-equal k y xs e =
      All-weaker _ _ (λ x h. ap (λ (a : K). 𝓚.order a x.key) (equal-keys k y.key e) ∙ 𝓚.after x.key y.key h) xs

  pub before-higher : (k : K) (y : Item K) (ys : List (Item K)) → 𝓚.order k y.key ≡ Less → AllByRecursion (λ z. 𝓚.order y.key z.key ≡ Less) ys
      → AllByRecursion (λ z. 𝓚.order k z.key ≡ Less) ys
  before-higher k y ys e = All-weaker _ _ (λ z h. 𝓚.chained k y.key z.key e h) ys

  pub before-higher-equal : (k : K) (y : Item K) (ys : List (Item K)) → 𝓚.order k y.key ≡ Equal
      → AllByRecursion (λ z. 𝓚.order y.key z.key ≡ Less) ys → AllByRecursion (λ z. 𝓚.order k z.key ≡ Less) ys
  before-higher-equal k y ys e = All-weaker _ _ (λ z h. ap (λ (a : K). 𝓚.order a z.key) (equal-keys k y.key e) ∙ h) ys

module _ {K : Type 0} (order : K → K → Ordering) (k : K) (word : ℤ) (nested : Tree) where
  pub all-put_in : (P : Item K → Type 0) (xs : List (Item K)) → P (item k word nested) → AllByRecursion P xs → AllByRecursion P (put_in order k word nested xs)
  unfolding put_in
  all-put_in P [] p h = (p, tt)
  all-put_in P (x ∷ xs) p h =
      by-order (order k x.key) (λ e. rw (put_in-less order k word nested x xs e) (p, h)) (λ e. rw (put_in-equal order k word nested x xs e) (p, h.1))
      (λ e. rw (put_in-greater order k word nested x xs e) (h.0, all-put_in P xs p h.1))

  -- a key after all of a front goes behind it
  pub put_in-behind : (xs ys : List (Item K)) → AllByRecursion (λ x. order k x.key ≡ Greater) xs
      → put_in order k word nested (xs ++ ys) ≡ xs ++ put_in order k word nested ys
  put_in-behind [] ys h = refl
  put_in-behind (x ∷ xs) ys h = put_in-greater order k word nested x (xs ++ ys) h.0 ∙ ap (λ (zs : List (Item K)). x ∷ zs) (put_in-behind xs ys h.1)

  -- a key before an item goes before it
  pub put_in-before : (xs : List (Item K)) (y : Item K) (ys : List (Item K)) → order k y.key ≡ Less
      → put_in order k word nested (xs ++ y ∷ ys) ≡ put_in order k word nested xs ++ y ∷ ys
  unfolding put_in
  put_in-before [] y ys e = put_in-less order k word nested y ys e
  put_in-before (x ∷ xs) y ys e =
      by-order (order k x.key)
      (λ l. rw (put_in-less order k word nested x (xs ++ y ∷ ys) l, put_in-less order k word nested x xs l))
      (λ l. rw (put_in-equal order k word nested x (xs ++ y ∷ ys) l, put_in-equal order k word nested x xs l))
      (λ l. rw (put_in-greater order k word nested x (xs ++ y ∷ ys) l, put_in-greater order k word nested x xs l) (ap (λ (zs : List (Item K)). x ∷ zs) (put_in-before xs y ys e)))

module _ {K : Type 0} (order : K → K → Ordering) (k : K) where
  pub all_without : (P : Item K → Type 0) (xs : List (Item K)) → AllByRecursion P xs → AllByRecursion P (without order k xs)
  unfolding without
  all_without P [] h = tt
  all_without P (x ∷ xs) h =
      by-order (order k x.key) (λ e. rw (without-less order k x xs e) (h.0, all_without P xs h.1))
      (λ e. rw (without-equal order k x xs e) (all_without P xs h.1)) (λ e. rw (without-greater order k x xs e) (h.0, all_without P xs h.1))

  pub without-append : (xs ys : List (Item K)) → without order k (xs ++ ys) ≡ without order k xs ++ without order k ys
  unfolding without
  without-append [] ys = refl
  without-append (x ∷ xs) ys =
      by-order (order k x.key)
      (λ e. rw (without-less order k x (xs ++ ys) e, without-less order k x xs e) (ap (λ (zs : List (Item K)). x ∷ zs) (without-append xs ys)))
      (λ e. rw (without-equal order k x (xs ++ ys) e, without-equal order k x xs e) (without-append xs ys))
      (λ e. rw (without-greater order k x (xs ++ ys) e, without-greater order k x xs e) (ap (λ (zs : List (Item K)). x ∷ zs) (without-append xs ys)))

  -- nothing is left out of a list all of whose keys are before k, or all after it
  pub without-lower : (xs : List (Item K)) → AllByRecursion (λ x. order k x.key ≡ Greater) xs → without order k xs ≡ xs
  unfolding without
  without-lower [] h = refl
  without-lower (x ∷ xs) h = without-greater order k x xs h.0 ∙ ap (λ (zs : List (Item K)). x ∷ zs) (without-lower xs h.1)

  pub without-higher : (xs : List (Item K)) → AllByRecursion (λ x. order k x.key ≡ Less) xs → without order k xs ≡ xs
  unfolding without
  without-higher [] h = refl
  without-higher (x ∷ xs) h = without-less order k x xs h.0 ∙ ap (λ (zs : List (Item K)). x ∷ zs) (without-higher xs h.1)

module _ {K : Type 0} (𝓚 : Kind K) (k : K) where
  pub put_in-ascends : (word : ℤ) (nested : Tree) (xs : List (Item K)) → Ascending 𝓚.order xs → Ascending 𝓚.order (put_in 𝓚.order k word nested xs)
  unfolding put_in
  put_in-ascends word nested [] a = (tt, tt)
  put_in-ascends word nested (x ∷ xs) a =
      by-order (𝓚.order k x.key)
      (λ e. rw (put_in-less 𝓚.order k word nested x xs e) ((e, before-higher 𝓚 k x xs e a.0), a))
      (λ e. rw (put_in-equal 𝓚.order k word nested x xs e) (before-higher-equal 𝓚 k x xs e a.0, a.1))
      (λ e. rw (put_in-greater 𝓚.order k word nested x xs e)
      (all-put_in 𝓚.order k word nested (λ y. 𝓚.order x.key y.key ≡ Less) xs (𝓚.before k x.key e) a.0, put_in-ascends word nested xs a.1))

  pub without-ascends : (xs : List (Item K)) → Ascending 𝓚.order xs → Ascending 𝓚.order (without 𝓚.order k xs)
  unfolding without
  without-ascends [] a = tt
  without-ascends (x ∷ xs) a =
      let rest : AllByRecursion (λ y. 𝓚.order x.key y.key ≡ Less) (without 𝓚.order k xs) = all_without 𝓚.order k (λ y. 𝓚.order x.key y.key ≡ Less) xs a.0 in
      by-order (𝓚.order k x.key)
      (λ e. rw (without-less 𝓚.order k x xs e) (rest, without-ascends xs a.1))
      (λ e. rw (without-equal 𝓚.order k x xs e) (without-ascends xs a.1))
      (λ e. rw (without-greater 𝓚.order k x xs e) (rest, without-ascends xs a.1))
