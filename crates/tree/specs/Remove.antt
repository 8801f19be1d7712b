-- How a key goes out of a tree: the two sides of its node are joined under the first item of the right side.
use Rattle.std.specs.Prelude.{ℤ}
use Rattle.std.specs.declared.cmp.Ordering.TheVariants.{Less, Equal, Greater}
use Rattle.std.specs.declared.cmp.Ordering.{Ordering}
use Rattle.pool.specs.Tree.{Tree, fork, leaf}
use Rattle.pool.specs.declared.node.Words.{Words}
use Rattle.tree.specs.Rebuild.{balance}
use Rattle.tree.specs.Shape.{Item, item}

-- the first item of the fork with this root and this left side, its key as stored
unfoldable pub first : Words → ℤ → Tree → Tree → Item Words
first words word nested leaf = item words word nested
first words word nested (fork lower held tall inner left right) = first lower held inner left

-- the fork with this root and these sides, less its first item
unfoldable pub without_first : Words → ℤ → Tree → Tree → Tree → Tree
without_first words word nested leaf right = right
without_first words word nested (fork lower held tall inner left middle) right =
    balance words word nested (without_first lower held inner left middle) right

-- the two sides of a node that goes
unfoldable pub join : Tree → Tree → Tree
join leaf right = right
join (fork lower held tall inner left middle) leaf = fork lower held tall inner left middle
join (fork lower held tall inner left middle) (fork upper word high nested before behind) =
    let root : Item Words = first upper word nested before in
    balance root.key root.word root.nested (fork lower held tall inner left middle) (without_first upper word nested before behind)

-- the tree less the key that `place` finds Equal
unfoldable pub remove : (Words → Ordering) → Tree → Tree
remove place leaf = leaf
remove place (fork words word tall nested left right) =
    elim (place words) [
      | Less ↦ balance words word nested (remove place left) right
      | Equal ↦ join left right
      | Greater ↦ balance words word nested left (remove place right)
    ]
