-- A pool that holds nodes for its outside owners: sound with just these owners, and each carries its tree.
use Rattle.std.specs.Prelude.{◌≡◌, ℕ, ◌<◌, List, ◌∷◌, map, ℤ}
use Rattle.std.specs.List.{AllByRecursion}
use Rattle.pool.specs.Node.{node_at}
use Rattle.pool.specs.Sound.{SoundIn, memory_of, used_of}
use Rattle.pool.specs.Tree.{Linked, Tree}
use Rattle.pool.specs.declared.node.Node.{Node}
use Rattle.pool.specs.declared.node.Words.{Words}
use Rattle.pool.specs.declared.pool.Pool.{Pool}
use Rattle.pool.specs.declared.state.PoolState.{PoolState}

-- an outside owner: the node that it owns, and the tree that the node carries
pub record Held : Type 0 where
  pub node : ℕ
  pub tree : Tree

abbrev pub held : ℕ → Tree → Held
held n t = record { node = n; tree = t }

abbrev pub node_of : Held → ℕ
node_of h = h.node

-- each owner's node carries the owner's tree
abbrev pub Carried : List Node → List Held → Type 0
Carried mem hs = AllByRecursion (λ h. Linked mem h.node h.tree) hs

pub record HoldsIn (mem : List Node) (free used : ℕ) (hs : List Held) : Type 0 where
  pub sound : SoundIn mem free used (map node_of hs)
  pub carried : Carried mem hs

-- of every pool that is made of these nodes and this state
abbrev pub OfParts : List Node → PoolState → (Pool → Type 0) → Type 0
OfParts mem state P = (p : Pool) → memory_of p ≡ mem → p.free ≡ state.free → used_of p ≡ state.used → P p

-- these nodes, with this state, are held for just these outside owners
abbrev pub HoldsBy : List Node → PoolState → List Held → Type 0
HoldsBy mem state = HoldsIn mem state.free state.used

unfoldable pub Holds : Pool → List Held → Type 0
Holds p hs = HoldsIn p.nodes.now p.free p.used hs

-- the node n is 0 or in use, and carries the tree
pub record CarriesIn (mem : List Node) (n : ℕ) (t : Tree) : Type 0 where
  pub kept : 0 < n → 0 < (node_at mem n).count
  pub linked : Linked mem n t

abbrev pub Carries : Pool → ℕ → Tree → Type 0
Carries p = CarriesIn (memory_of p)

-- the three links of the node x carry the three trees
pub record CarriesLinksIn (mem : List Node) (x : Node) (nested left right : Tree) : Type 0 where
  pub by_nested : CarriesIn mem x.nested nested
  pub by_left : CarriesIn mem x.left left
  pub by_right : CarriesIn mem x.right right

abbrev pub CarriesLinks : Pool → Node → Tree → Tree → Tree → Type 0
CarriesLinks p = CarriesLinksIn (memory_of p)

-- a memory that is sound with some free list and some outside owners
pub record SoundMemory (mem : List Node) : Type 0 where
  pub free : ℕ
  pub used : ℕ
  pub owners : List Held
  pub holds : HoldsIn mem free used owners

-- a fork was taken apart into the node x: x has the fork's contents, and the pool holds its three trees
pub record TakenApart (p : Pool) (x : Node) (key : Words) (word : ℤ) (height : ℕ) (nested left right : Tree) (hs : List Held) : Type 0 where
  pub key_is : x.key ≡ key
  pub word_is : x.word ≡ word
  pub height_is : x.height ≡ height
  pub holds : Holds p (held x.left left ∷ held x.nested nested ∷ held x.right right ∷ hs)
