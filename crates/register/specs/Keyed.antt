-- Lists of keys with values, in an order of the keys: what a key has, what stands there after a put, and after a drop.
use Rattle.std.specs.Prelude.{List, [], ◌∷◌, Some, None, Option}
use Rattle.std.specs.declared.cmp.Ordering.{Ordering}
use Rattle.tree.specs.Lookup.{by_order}

module _ {K V : Type 0} (order : K → K → Ordering) where
  -- the value of a key
  abbrev pub value_at : K → List (K × V) → Option V
  value_at k [] = None
  value_at k (x ∷ xs) = by_order (order k x.0) (value_at k xs) (Some x.1) (value_at k xs)

  -- the key goes before the first greater one, and takes the place of an equal one
  abbrev pub put_at : K → V → List (K × V) → List (K × V)
  put_at k v [] = (k, v) ∷ []
  put_at k v (x ∷ xs) = by_order (order k x.0) ((k, v) ∷ x ∷ xs) ((k, v) ∷ xs) (x ∷ put_at k v xs)

  -- the pairs of other keys
  abbrev pub drop_at : K → List (K × V) → List (K × V)
  drop_at k [] = []
  drop_at k (x ∷ xs) = by_order (order k x.0) (x ∷ drop_at k xs) (drop_at k xs) (x ∷ drop_at k xs)
