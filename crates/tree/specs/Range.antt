-- How many items have their key in a range, and the sum of their words: by the list of items alone, and on a walk of the
-- tree that leaves out every side which the order rules out.
use Rattle.std.specs.Prelude.{◌≡◌, Bool, cond, ◌&&◌, List, [], ◌∷◌, ◌++◌, length, ℤ, pos, negsuc, ◌+ℤ◌, ◌≤ℤ◌, filter}
use Rattle.std.specs.declared.cmp.Ordering.{Ordering}
use Rattle.std.specs.Ordering.{is_le, is_lt}
use Rattle.tree.specs.Shape.{Item, item}
use Rattle.tree.specs.declared.range.Total.{Total}
use Rattle.pool.specs.Tree.{Tree, fork, leaf}
use Rattle.pool.specs.declared.node.Words.{Words}

module _ {K : Type 0} (order : K → K → Ordering) where
  -- low ≤ k ≤ high
  abbrev pub inside : K → K → K → Bool
  inside low high k = is_le (order low k) && is_le (order k high)

  -- the items with their key in the range
  abbrev pub within : K → K → List (Item K) → List (Item K)
  within low high = filter (λ x. inside low high x.key)

  -- the same from a tree, past the sides that have no such key
  unfoldable pub walk : (Words → K) → K → K → Tree → List (Item K)
  walk key low high leaf = []
  walk key low high (fork words word tall nested left right) =
      cond (is_lt (order low (key words))) (walk key low high left) []
      ++ (cond (inside low high (key words)) (item (key words) word nested ∷ []) [] ++ cond (is_lt (order (key words) high)) (walk key low high right) [])

-- the exact sum of the words
abbrev pub sum_of : {K : Type 0} → List (Item K) → ℤ
sum_of [] = pos 0
sum_of (x ∷ xs) = x.word +ℤ sum_of xs

-- the number of the items, and the sum of their words
pub record Totals {K : Type 0} (xs : List (Item K)) (r : Total) : Type 0 where
  pub count_is : r.count ≡ length xs
  pub sum_is : r.sum ≡ sum_of xs

-- the word is at most 1,000,000,000,000 either way
abbrev pub Modest : {K : Type 0} → Item K → Type 0
Modest x = (negsuc 999_999_999_999 ≤ℤ x.word) × (x.word ≤ℤ pos 1_000_000_000_000)
