-- An answer given back from memory: which item it stands for, and that its nested link carries the item's tree.
use Rattle.std.specs.Prelude.{◌≡◌, ℕ, List, ℤ, Some, None, Option}
use Rattle.tree.specs.Shape.{Item}
use Rattle.pool.specs.Held.{CarriesIn}
use Rattle.pool.specs.declared.node.Node.{Node}

module _ {K V : Type 0} (mem : List Node) (value : ℤ → ℕ → V) where
  -- the value v stands for the item: it has the item's word, and a link that carries the item's nested tree
  pub record StandsFor (x : Item K) (v : V) : Type 0 where
    pub link : ℕ
    pub carried : CarriesIn mem link x.nested
    pub value-is : v ≡ value x.word link

  -- the value of the item, or none where there is no item
  abbrev pub GivenValue : Option (Item K) → Option V → Type 0
  GivenValue None None = Unit {0}
  GivenValue None (Some v) = ⊥
  GivenValue (Some x) None = ⊥
  GivenValue (Some x) (Some v) = StandsFor x v

  -- the key and the value of the item, or none where there is no item
  abbrev pub GivenItem : Option (Item K) → Option (K × V) → Type 0
  GivenItem None None = Unit {0}
  GivenItem None (Some g) = ⊥
  GivenItem (Some x) None = ⊥
  GivenItem (Some x) (Some g) = (g.0 ≡ x.key) × StandsFor x g.1
