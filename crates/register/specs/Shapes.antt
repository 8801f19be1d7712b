-- What is true of all trees of a place: of its line, of the sheets in it and the working sheet, and of the cards in those.
use Rattle.std.specs.Prelude.{ℕ, ◌<◌}
use Rattle.std.specs.List.{AllByRecursion}
use Rattle.pool.specs.Tree.{Tree, fork, leaf}
use Rattle.tree.specs.Range.{Modest}
use Rattle.tree.specs.Shape.{Ascending, Balanced, items}
use Rattle.register.specs.Contents.{Names, earlier, instant_at}
use Rattle.register.specs.Places.{Doing, Place, free, live, resting, sitting, stowed}

-- of each tree that is nested in a node of the tree
abbrev pub Nested : (Tree → Type 0) → Tree → Type 0
Nested P leaf = Unit {0}
Nested P (fork words word tall nested left right) = P nested × Nested P left × Nested P right

-- of a sheet and its cards
pub record SheetWith (Q R : Tree → Type 0) (t : Tree) : Type 0 where
  pub sheet : Q t
  pub cards : Nested R t

-- of a line, its sheets and their cards
pub record LineWith (P Q R : Tree → Type 0) (t : Tree) : Type 0 where
  pub line : P t
  pub sheets : Nested (SheetWith Q R) t

abbrev pub WorkingWith : (Q R : Tree → Type 0) → Doing → Type 0
WorkingWith Q R resting = Unit {0}
WorkingWith Q R (sitting recorded sheet) = SheetWith Q R sheet.tree
WorkingWith Q R (stowed letter) = Unit {0}

abbrev pub Everywhere : (P Q R : Tree → Type 0) → Place → Type 0
Everywhere P Q R free = Unit {0}
Everywhere P Q R (live serial stages doing) = LineWith P Q R stages.tree × WorkingWith Q R doing

-- instants ascend
abbrev pub ByTime : Tree → Type 0
ByTime t = Ascending earlier (items instant_at t)

-- a card: balanced, with ascending instants and readings in range
pub record Filed (t : Tree) : Type 0 where
  pub balanced : Balanced t
  pub by_time : ByTime t
  pub modest : AllByRecursion Modest (items instant_at t)

-- every tree is balanced, and every card is filed: this needs no order of names
abbrev pub Sturdy : Place → Type 0
Sturdy = Everywhere Balanced Balanced Filed

-- names ascend in the order
abbrev pub ByName : {K : Type 0} → Names K → Tree → Type 0
ByName 𝓝 t = Ascending 𝓝.order (items 𝓝.key t)

-- every stage of the line is before the instant
abbrev pub Before : ℕ → Tree → Type 0
Before recorded t = AllByRecursion (λ x. x.key.seconds < recorded) (items instant_at t)

-- the stages of a sitting's line are before its recorded instant
abbrev pub Later : Place → Type 0
Later free = Unit {0}
Later (live serial stages resting) = Unit {0}
Later (live serial stages (sitting recorded sheet)) = Before recorded stages.tree
Later (live serial stages (stowed letter)) = Unit {0}

-- every tree is in its order, and a sitting is later than its line
pub record Ordered {K : Type 0} (𝓝 : Names K) (place : Place) : Type 0 where
  pub trees : Everywhere ByTime (ByName 𝓝) ByTime place
  pub later : Later place
