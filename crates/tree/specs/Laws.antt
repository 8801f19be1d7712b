-- The laws of the tree for a kind of key: what it holds after an insert and after a remove, its order, and its balance.
use Rattle.std.specs.Prelude.{◌≡◌, ℕ, ◌+◌, ◌<◌, ◌≤◌, List, [], ◌∷◌, ◌++◌, ℤ, ◌≢◌}
use Rattle.std.specs.declared.cmp.Ordering.TheVariants.{Equal, Greater}
use Rattle.std.specs.List.{AllByRecursion}
use Rattle.pool.specs.Tree.{Tree, fork}
use Rattle.pool.specs.declared.node.Words.{Words}
use Rattle.tree.specs.Append.{Behind, LeansRight}
use Rattle.tree.specs.Heights.{Grown, Rebuilt, Shrunk}
use Rattle.tree.specs.Insert.{compared, insert}
use Rattle.tree.specs.Kind.{Kind}
use Rattle.tree.specs.Listed.{put_in, without}
use Rattle.tree.specs.Rebuild.{balance}
use Rattle.tree.specs.Remove.{remove}
use Rattle.tree.specs.Shape.{Ascending, Balanced, Item, height, item, items}

module _ {K : Type 0} (𝓚 : Kind K) where
  -- the items of a tree, by keys of the kind
  abbrev pub listed : Tree → List (Item K)
  listed t = items 𝓚.key t

  -- every key of the tree is before all keys behind it
  abbrev pub InOrder : Tree → Type 0
  InOrder t = Ascending 𝓚.order (listed t)

  -- the tree with the key k put in, and with the key k left out
  abbrev pub with_key : K → ℤ → Tree → Tree → Tree
  with_key k word nested t = insert (compared 𝓚.key 𝓚.order k) (𝓚.words k) word nested t

  abbrev pub without_key : K → Tree → Tree
  without_key k t = remove (compared 𝓚.key 𝓚.order k) t

pub record ContentsLaws {K : Type 0} (𝓚 : Kind K) : Type 0 where
  -- rebuilding moves no item
  pub rebuilt : (words : Words) (word : ℤ) (nested left right : Tree)
      → listed 𝓚 (balance words word nested left right) ≡ listed 𝓚 left ++ item (𝓚.key words) word nested ∷ listed 𝓚 right
  pub inserted : (k : K) (word : ℤ) (nested t : Tree) → InOrder 𝓚 t → listed 𝓚 (with_key 𝓚 k word nested t) ≡ put_in 𝓚.order k word nested (listed 𝓚 t)
  pub removed : (k : K) (t : Tree) → InOrder 𝓚 t → listed 𝓚 (without_key 𝓚 k t) ≡ without 𝓚.order k (listed 𝓚 t)
  -- a key that is not there leaves the tree itself
  pub absent : (k : K) (t : Tree) → Balanced t → AllByRecursion (λ x. 𝓚.order k x.key ≢ Equal) (listed 𝓚 t) → without_key 𝓚 k t ≡ t

pub record OrderLaws {K : Type 0} (𝓚 : Kind K) : Type 0 where
  pub put : (k : K) (word : ℤ) (nested : Tree) (xs : List (Item K)) → Ascending 𝓚.order xs → Ascending 𝓚.order (put_in 𝓚.order k word nested xs)
  pub dropped : (k : K) (xs : List (Item K)) → Ascending 𝓚.order xs → Ascending 𝓚.order (without 𝓚.order k xs)
  pub inserted : (k : K) (word : ℤ) (nested t : Tree) → InOrder 𝓚 t → InOrder 𝓚 (with_key 𝓚 k word nested t)
  pub removed : (k : K) (t : Tree) → InOrder 𝓚 t → InOrder 𝓚 (without_key 𝓚 k t)

pub record BalanceLaws {K : Type 0} (𝓚 : Kind K) : Type 0 where
  pub rebuilt : (words : Words) (word : ℤ) (nested left right : Tree) → Balanced left → Balanced right → height left ≤ height right + 2
      → height right ≤ height left + 2 → Rebuilt (height left) (height right) (balance words word nested left right)
  pub inserted : (k : K) (word : ℤ) (nested t : Tree) → Balanced t → Grown (height t) (with_key 𝓚 k word nested t)
  pub removed : (k : K) (t : Tree) → Balanced t → Shrunk (height t) (without_key 𝓚 k t)

pub record AppendLaws {K : Type 0} (𝓚 : Kind K) : Type 0 where
  -- a key after all keys goes down the right side, and behind all items
  pub behind : (k : K) (t : Tree) → AllByRecursion (λ x. 𝓚.order k x.key ≡ Greater) (listed 𝓚 t) → Behind (compared 𝓚.key 𝓚.order k) t
  pub last : (k : K) (word : ℤ) (nested t : Tree) → AllByRecursion (λ x. 𝓚.order k x.key ≡ Greater) (listed 𝓚 t)
      → listed 𝓚 (with_key 𝓚 k word nested t) ≡ listed 𝓚 t ++ item k word nested ∷ []
  -- where the right side has become too high, it leans to the right: one rotation suffices
  pub leans : (k : K) (word : ℤ) (nested : Tree) (words : Words) (held : ℤ) (tall : ℕ) (inner left right : Tree)
      → Balanced (fork words held tall inner left right) → Behind (compared 𝓚.key 𝓚.order k) right
      → height left + 1 < height (with_key 𝓚 k word nested right) → LeansRight (with_key 𝓚 k word nested right)

pub record TreeLaws {K : Type 0} (𝓚 : Kind K) : Type 0 where
  pub contents : ContentsLaws 𝓚
  pub order : OrderLaws 𝓚
  pub balance : BalanceLaws 𝓚
  pub append : AppendLaws 𝓚
