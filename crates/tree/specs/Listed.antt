-- What inserting and removing mean, on an ascending list of items.
use Rattle.std.specs.Prelude.{List, [], ◌∷◌, ℤ}
use Rattle.std.specs.declared.cmp.Ordering.TheVariants.{Less, Equal, Greater}
use Rattle.std.specs.declared.cmp.Ordering.{Ordering}
use Rattle.pool.specs.Tree.{Tree}
use Rattle.tree.specs.Shape.{Item, item}

-- the key goes before the first greater one, and takes the place of an equal one
unfoldable pub put_in : {K : Type 0} → (K → K → Ordering) → K → ℤ → Tree → List (Item K) → List (Item K)
put_in order k word nested [] = item k word nested ∷ []
put_in order k word nested (x ∷ xs) =
    elim (order k x.key) [
      | Less ↦ item k word nested ∷ x ∷ xs
      | Equal ↦ item k word nested ∷ xs
      | Greater ↦ x ∷ put_in order k word nested xs
    ]

-- the items whose key is not equal to k
unfoldable pub without : {K : Type 0} → (K → K → Ordering) → K → List (Item K) → List (Item K)
without order k [] = []
without order k (x ∷ xs) =
    elim (order k x.key) [ Less ↦ x ∷ without order k xs | Equal ↦ without order k xs | Greater ↦ x ∷ without order k xs ]
