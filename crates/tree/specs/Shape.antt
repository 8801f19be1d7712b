-- What a tree shows: its height as stored, its items in order, and the two rules that it keeps, order and balance.
use Rattle.std.specs.Prelude.{◌≡◌, ℕ, suc, ◌+◌, ◌≤◌, max, List, [], ◌∷◌, ◌++◌, ℤ}
use Rattle.std.specs.declared.cmp.Ordering.TheVariants.{Less}
use Rattle.std.specs.declared.cmp.Ordering.{Ordering}
use Rattle.std.specs.List.{AllByRecursion}
use Rattle.pool.specs.Tree.{Tree, fork, leaf}
use Rattle.pool.specs.declared.node.Words.{Words}

-- a key with its value: a word, and a nested tree
pub record Item (K : Type 0) : Type 0 where
  pub key : K
  pub word : ℤ
  pub nested : Tree

abbrev pub item : {K : Type 0} → K → ℤ → Tree → Item K
item k word nested = record { key = k; word = word; nested = nested }

-- the height that the root stores; a tree of no nodes has height 0
abbrev pub height : Tree → ℕ
height leaf = 0
height (fork words word tall nested left right) = tall

-- the items from left to right
abbrev pub items : {K : Type 0} → (Words → K) → Tree → List (Item K)
items key leaf = []
items key (fork words word tall nested left right) = items key left ++ item (key words) word nested ∷ items key right

-- every key is before all keys behind it
abbrev pub Ascending : {K : Type 0} → (K → K → Ordering) → List (Item K) → Type 0
Ascending order [] = Unit {0}
Ascending order (x ∷ xs) = AllByRecursion (λ y. order x.key y.key ≡ Less) xs × Ascending order xs

-- the stored height is the height, and the heights of the two sides differ by at most 1, at every node
abbrev pub Balanced : Tree → Type 0
Balanced leaf = Unit {0}
Balanced (fork words word tall nested left right) =
    (tall ≡ suc (max (height left) (height right))) × (height left ≤ height right + 1) × (height right ≤ height left + 1)
    × Balanced left × Balanced right
