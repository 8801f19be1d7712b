-- Questions to a tree of ascending keys, answered on the way down, and what each answer is by the list of items alone.
use Rattle.std.specs.Prelude.{List, [], ◌∷◌, Some, None, Option}
use Rattle.std.specs.declared.cmp.Ordering.TheVariants.{Less, Equal, Greater}
use Rattle.std.specs.declared.cmp.Ordering.{Ordering}
use Rattle.tree.specs.Shape.{Item, item}
use Rattle.pool.specs.Tree.{Tree, fork, leaf}
use Rattle.pool.specs.declared.node.Words.{Words}

-- one of three, by a comparison
abbrev pub by_order : {A : Type 0} → Ordering → A → A → A → A
by_order Less before equal after = before
by_order Equal before equal after = equal
by_order Greater before equal after = after

-- the value, or the other where there is none
abbrev pub or_else : {A : Type 0} → Option A → Option A → Option A
or_else None other = other
or_else (Some value) other = Some value

module _ {K : Type 0} (key : Words → K) (order : K → K → Ordering) where
  -- the item of the key k
  unfoldable pub find : K → Tree → Option (Item K)
  find k leaf = None
  find k (fork words word tall nested left right) =
      by_order (order k (key words)) (find k left) (Some (item (key words) word nested)) (find k right)

  -- the item with the greatest key at most k
  unfoldable pub at_most : K → Tree → Option (Item K)
  at_most k leaf = None
  at_most k (fork words word tall nested left right) =
      by_order (order k (key words)) (at_most k left)
      (Some (item (key words) word nested))
      (or_else (at_most k right) (Some (item (key words) word nested)))

  -- the item with the least key after k
  unfoldable pub after : K → Tree → Option (Item K)
  after k leaf = None
  after k (fork words word tall nested left right) =
      by_order (order k (key words))
      (or_else (after k left) (Some (item (key words) word nested)))
      (after k right) (after k right)

  -- the item of the least key, and that of the greatest
  unfoldable pub first : Tree → Option (Item K)
  first leaf = None
  first (fork words word tall nested left right) = or_else (first left) (Some (item (key words) word nested))

  unfoldable pub last : Tree → Option (Item K)
  last leaf = None
  last (fork words word tall nested left right) = or_else (last right) (Some (item (key words) word nested))

-- the same questions to the list of items
module _ {K : Type 0} (order : K → K → Ordering) where
  abbrev pub item_at : K → List (Item K) → Option (Item K)
  item_at k [] = None
  item_at k (x ∷ xs) = by_order (order k x.key) (item_at k xs) (Some x) (item_at k xs)

  abbrev pub last_at_most : K → List (Item K) → Option (Item K)
  last_at_most k [] = None
  last_at_most k (x ∷ xs) = or_else (last_at_most k xs) (by_order (order x.key k) (Some x) (Some x) None)

  abbrev pub first_after : K → List (Item K) → Option (Item K)
  first_after k [] = None
  first_after k (x ∷ xs) = by_order (order k x.key) (Some x) (first_after k xs) (first_after k xs)

abbrev pub first_of : {A : Type 0} → List A → Option A
first_of [] = None
first_of (x ∷ xs) = Some x

abbrev pub last_of : {A : Type 0} → List A → Option A
last_of [] = None
last_of (x ∷ xs) = or_else (last_of xs) (Some x)
