-- How a key goes into a tree: a new node, or a new value where the key already is.
use Rattle.std.specs.Prelude.{ℤ}
use Rattle.std.specs.declared.cmp.Ordering.TheVariants.{Less, Equal, Greater}
use Rattle.std.specs.declared.cmp.Ordering.{Ordering}
use Rattle.pool.specs.Tree.{Tree, fork, leaf}
use Rattle.pool.specs.declared.node.Words.{Words}
use Rattle.tree.specs.Rebuild.{balance, node}

-- how the key k compares with the key that a node stores as two words
abbrev pub compared : {K : Type 0} → (Words → K) → (K → K → Ordering) → K → Words → Ordering
compared key order k words = order k (key words)

-- puts a key, stored as the words `new`, with its value; `place` is how it compares with the key of a node
unfoldable pub insert : (Words → Ordering) → Words → ℤ → Tree → Tree → Tree
insert place new word nested leaf = node new word nested leaf leaf
insert place new word nested (fork words held tall inner left right) =
    elim (place words) [
      | Less ↦ balance words held inner (insert place new word nested left) right
      | Equal ↦ fork words word tall nested left right
      | Greater ↦ balance words held inner left (insert place new word nested right)
    ]

-- one of two facts, by a comparison; where the keys are equal none is asked
abbrev pub on_side : Ordering → Type 0 → Type 0 → Type 0
on_side Less before behind = before
on_side Equal before behind = Unit {0}
on_side Greater before behind = behind

-- the key is in the tree: `place` finds it Equal on the way down
abbrev pub Present : (Words → Ordering) → Tree → Type 0
Present place leaf = ⊥
Present place (fork words word tall nested left right) = on_side (place words) (Present place left) (Present place right)
