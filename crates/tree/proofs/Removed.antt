-- What a pool holds on the way through a remove.
use Rattle.std.proofs.Common.{◌≡◌, ℕ, suc, ◌+◌, ◌*◌, ◌^◌, ◌<◌, ◌≤◌, max, List, ◌∷◌, length, ℤ, Ordering, Less, Equal, Greater, sym, refl, subst, arith}
use Rattle.pool.proofs.Pools.{held-carries, holds-nothing}
use Rattle.pool.proofs.Reorder.{holds-swapped}
use Rattle.pool.specs.Held.{Carries, Held, Holds, held}
use Rattle.pool.specs.Sound.{memory_of, used_of}
use Rattle.pool.specs.Tree.{Tree, fork, leaf}
use Rattle.pool.specs.declared.node.Node.{Node}
use Rattle.pool.specs.declared.node.Words.{Words}
use Rattle.pool.specs.declared.pool.Pool.{Pool}
use Rattle.tree.proofs.Balances.{remove-shrunk, without_first-shrunk}
use Rattle.tree.proofs.Permuted.{first-fourth, first-third, third-first}
use Rattle.tree.proofs.Rotating.{Opens, Puts, same-root}
use Rattle.tree.proofs.Standing.{Standing, at_left, at_nested, at_right, key-placed, left-lower, right-lower, standing_tree, stood-apart}
use Rattle.tree.proofs.Steps.{first-fork, first_leaf, join-forks, join-left-leaf, join-right-leaf, remove-equal, remove-greater, remove-leaf, remove-less, without_first-fork, without_first-leaf}
use Rattle.tree.proofs.Sides.{over, sides}
use Rattle.tree.specs.Ready.{Balanceable}
use Rattle.tree.specs.Rebuild.{balance}
use Rattle.tree.specs.Removable.{FirstTaken, Joinable, Leaving, Removable, leaving}
use Rattle.tree.specs.Remove.{first, join, remove, without_first}
use Rattle.tree.specs.declared.removing.First.{First}
use Rattle.tree.specs.Shape.{Balanced, Item, height, item}

-- ---- what the calls do to the owners

-- the first node goes out of the tree of a node
abbrev pub FirstTakes : Pool → Pool → ℕ → Node → ℕ → Type 0
FirstTakes p q n y rest =
    (key : Words) (word : ℤ) (tall : ℕ) (nested left right : Tree) (hs : List Held) → Holds p (held n (fork key word tall nested left right) ∷ hs)
    → FirstTaken q y rest (first key word nested left) (without_first key word nested left right) hs

-- two sides become one tree
abbrev pub Joins : Pool → Pool → ℕ → ℕ → ℕ → Type 0
Joins p q left right n = (l r : Tree) (hs : List Held) → Holds p (held left l ∷ held right r ∷ hs) → Holds q (held n (join l r) ∷ hs)

-- the two sides of a node that goes become one tree
abbrev pub Leaves : Pool → Pool → Node → ℕ → Type 0
Leaves p q x n = (nested l r : Tree) (hs : List Held) → Holds p (leaving x nested l r hs) → Holds q (held n (join l r) ∷ hs)

-- a key goes out of the tree of a node
abbrev pub Removes : (Words → Ordering) → Pool → Pool → ℕ → ℕ → Type 0
Removes place p q n m = (t : Tree) (hs : List Held) → Holds p (held n t ∷ hs) → Holds q (held m (remove place t) ∷ hs)

-- ---- a tree with nodes

-- a node with its tree, where a key can go out
pub record LowStanding (p : Pool) (n : ℕ) : Type 0 where
  pub trees : Standing p n
  pub few : length trees.others + 2 * trees.tall + 8 < 2 ^ 31
  pub balanced : Balanced (standing_tree trees)
  pub low : trees.tall ≤ 100
  pub room : used_of p + 3 * trees.tall ≤ length (memory_of p)

low-standing-of : (p : Pool) (n : ℕ) (t : Tree) (hs : List Held) → Holds p (held n t ∷ hs) → length hs + 2 * height t + 8 < 2 ^ 31 → Balanced t
    → height t ≤ 100 → used_of p + 3 * height t ≤ length (memory_of p) → 0 < n → LowStanding p n
low-standing-of p n leaf hs h few b low room numbered = let z : n ≡ 0 = (held-carries p n leaf _ h).linked in absurd (omega arith)
low-standing-of p n (fork key word tall nested left right) hs h few b low room numbered =
    record {
      trees = record { key = key; word = word; tall = tall; nested = nested; left = left; right = right; others = hs; holds = h };
      few = few;
      balanced = b;
      low = low;
      room = room;
    }

pub low-standing : {p : Pool} {n : ℕ} → Removable p n → 0 < n → LowStanding p n
low-standing {p = p} {n = n} i = low-standing-of p n i.t i.others i.holds i.few i.balanced i.low i.room

module _ {p : Pool} {n : ℕ} (d : Standing p n) (q : Pool) (x : Node) (opened : Opens p q n x) where
  module _ (place : Words → Ordering) where
    left-removed-sides : (q1 : Pool) (l : ℕ) → Removes place q q1 x.left l
        → Holds q1 (sides x l x.right d.nested (remove place d.left) d.right d.others)
    left-removed-sides q1 l gone = gone d.left _ (at_left d q x opened)

    right-removed-sides : (q1 : Pool) (r : ℕ) → Removes place q q1 x.right r
        → Holds q1 (sides x x.left r d.nested d.left (remove place d.right) d.others)
    right-removed-sides q1 r gone =
        first-third q1 (held r (remove place d.right)) (held x.left d.left) (held x.nested d.nested) d.others
        (gone d.right _ (at_right d q x opened))

    left-removed : (q1 q2 : Pool) (l m : ℕ) → place x.key ≡ Less → Removes place q q1 x.left l → Puts balance q1 q2 x l x.right m
        → Holds q2 (held m (remove place (standing_tree d)) ∷ d.others)
    left-removed q1 q2 l m less gone put =
        subst (λ (t : Tree). Holds q2 (held m t ∷ d.others))
        (sym (remove-less place d.key d.word d.tall d.nested d.left d.right (key-placed d q x opened place Less less)))
        (same-root (λ k w. balance k w d.nested (remove place d.left) d.right) q2 x m d.key d.word d.others
        (stood-apart d q x opened).key_is (stood-apart d q x opened).word_is (put d.nested (remove place d.left) d.right d.others (left-removed-sides q1 l gone)))

    right-removed : (q1 q2 : Pool) (r m : ℕ) → place x.key ≡ Greater → Removes place q q1 x.right r → Puts balance q1 q2 x x.left r m
        → Holds q2 (held m (remove place (standing_tree d)) ∷ d.others)
    right-removed q1 q2 r m greater gone put =
        subst (λ (t : Tree). Holds q2 (held m t ∷ d.others))
        (sym (remove-greater place d.key d.word d.tall d.nested d.left d.right (key-placed d q x opened place Greater greater)))
        (same-root (λ k w. balance k w d.nested d.left (remove place d.right)) q2 x m d.key d.word d.others
        (stood-apart d q x opened).key_is (stood-apart d q x opened).word_is (put d.nested d.left (remove place d.right) d.others (right-removed-sides q1 r gone)))

    root-removed : (q1 : Pool) (m : ℕ) → place x.key ≡ Equal → Leaves q q1 x m → Holds q1 (held m (remove place (standing_tree d)) ∷ d.others)
    root-removed q1 m equal leaves =
        subst (λ (t : Tree). Holds q1 (held m t ∷ d.others))
        (sym (remove-equal place d.key d.word d.tall d.nested d.left d.right (key-placed d q x opened place Equal equal)))
        (leaves d.nested d.left d.right d.others (at_nested d q x opened))

module _ (place : Words → Ordering) (p : Pool) (n : ℕ) where
  pub removed-leaf : n ≡ 0 → Removes place p p n 0
  removed-leaf none leaf hs h =
      subst (λ (t : Tree). Holds p (held 0 t ∷ hs)) (sym (remove-leaf place)) (subst (λ (i : ℕ). Holds p (held i leaf ∷ hs)) none h)
  removed-leaf none (fork key word tall nested left right) hs h =
      let some : 0 < n = (held-carries p n (fork key word tall nested left right) _ h).linked.0 in absurd (omega arith)

  module _ (q : Pool) (x : Node) (numbered : 0 < n) (opened : Opens p q n x) where
    pub removed-less : (q1 q2 : Pool) (l m : ℕ) → place x.key ≡ Less → Removes place q q1 x.left l → Puts balance q1 q2 x l x.right m
        → Removes place p q2 n m
    removed-less q1 q2 l m less gone put leaf hs h = let z : n ≡ 0 = (held-carries p n leaf _ h).linked in absurd (omega arith)
    removed-less q1 q2 l m less gone put (fork key word tall nested left right) hs h =
        left-removed record { key = key; word = word; tall = tall; nested = nested; left = left; right = right; others = hs; holds = h } q x opened place q1 q2 l m less gone put

    pub removed-greater : (q1 q2 : Pool) (r m : ℕ) → place x.key ≡ Greater → Removes place q q1 x.right r → Puts balance q1 q2 x x.left r m
        → Removes place p q2 n m
    removed-greater q1 q2 r m greater gone put leaf hs h = let z : n ≡ 0 = (held-carries p n leaf _ h).linked in absurd (omega arith)
    removed-greater q1 q2 r m greater gone put (fork key word tall nested left right) hs h =
        right-removed record { key = key; word = word; tall = tall; nested = nested; left = left; right = right; others = hs; holds = h } q x opened place q1 q2 r m greater gone put

    pub removed-equal : (q1 : Pool) (m : ℕ) → place x.key ≡ Equal → Leaves q q1 x m → Removes place p q1 n m
    removed-equal q1 m equal leaves leaf hs h = let z : n ≡ 0 = (held-carries p n leaf _ h).linked in absurd (omega arith)
    removed-equal q1 m equal leaves (fork key word tall nested left right) hs h =
        root-removed record { key = key; word = word; tall = tall; nested = nested; left = left; right = right; others = hs; holds = h } q x opened place q1 m equal leaves

-- ---- what the calls on the way need

module _ {p : Pool} {n : ℕ} (d : LowStanding p n) (q : Pool) (x : Node) (opened : Opens p q n x) where
  module _ (fewer : used_of q ≤ used_of p) (size : length (memory_of q) ≡ length (memory_of p)) where
    pub left-removable : Removable q x.left
    left-removable =
        record {
          t = d.trees.left;
          others = held x.nested d.trees.nested ∷ held x.right d.trees.right ∷ d.trees.others;
          holds = at_left d.trees q x opened;
          few = omega (arith, d.few, left-lower d.trees d.balanced);
          balanced = d.balanced.3;
          low = omega (arith, d.low, left-lower d.trees d.balanced);
          room = omega (arith, d.room, left-lower d.trees d.balanced);
        }

    pub right-removable : Removable q x.right
    right-removable =
        record {
          t = d.trees.right;
          others = held x.left d.trees.left ∷ held x.nested d.trees.nested ∷ d.trees.others;
          holds = at_right d.trees q x opened;
          few = omega (arith, d.few, right-lower d.trees d.balanced);
          balanced = d.balanced.4;
          low = omega (arith, d.low, right-lower d.trees d.balanced);
          room = omega (arith, d.room, right-lower d.trees d.balanced);
        }

    pub root-leaving : Leaving q x
    root-leaving =
        record {
          nested = d.trees.nested;
          l = d.trees.left;
          r = d.trees.right;
          others = d.trees.others;
          holds = at_nested d.trees q x opened;
          few = omega (arith, d.few, right-lower d.trees d.balanced);
          balanced_left = d.balanced.3;
          balanced_right = d.balanced.4;
          low_left = omega (arith, d.low, left-lower d.trees d.balanced);
          low_right = omega (arith, d.low, right-lower d.trees d.balanced);
          room = omega (arith, d.room, right-lower d.trees d.balanced);
        }

  module _ (place : Words → Ordering) (q1 : Pool) where
    pub left-shrunk : (l : ℕ) → Removes place q q1 x.left l → Balanceable q1 (over x l x.right)
    left-shrunk l gone =
        let s = remove-shrunk place d.trees.left d.balanced.3 in
        record {
          nested = d.trees.nested;
          l = remove place d.trees.left;
          r = d.trees.right;
          others = d.trees.others;
          holds = left-removed-sides d.trees q x opened place q1 l gone;
          few = omega (arith, d.few);
          balanced_left = s.balanced;
          balanced_right = d.balanced.4;
          low_left = omega (arith, d.low, left-lower d.trees d.balanced, s.most);
          low_right = omega (arith, d.low, right-lower d.trees d.balanced);
        }

    pub right-shrunk : (r : ℕ) → Removes place q q1 x.right r → Balanceable q1 (over x x.left r)
    right-shrunk r gone =
        let s = remove-shrunk place d.trees.right d.balanced.4 in
        record {
          nested = d.trees.nested;
          l = d.trees.left;
          r = remove place d.trees.right;
          others = d.trees.others;
          holds = right-removed-sides d.trees q x opened place q1 r gone;
          few = omega (arith, d.few);
          balanced_left = d.balanced.3;
          balanced_right = s.balanced;
          low_left = omega (arith, d.low, left-lower d.trees d.balanced);
          low_right = omega (arith, d.low, right-lower d.trees d.balanced, s.most);
        }

-- ---- the first node of a tree

taken_as : (q : Pool) (y : Node) (rest : ℕ) (a b : Item Words) (t u : Tree) (hs : List Held) → b ≡ a → u ≡ t → FirstTaken q y rest a t hs
    → FirstTaken q y rest b u hs
taken_as q y rest a b t u hs e f h =
    subst (λ (v : Tree). FirstTaken q y rest b v hs) (sym f) (subst (λ (r : Item Words). FirstTaken q y rest r t hs) (sym e) h)

module _ (p q : Pool) (n : ℕ) (x : Node) (opened : Opens p q n x) where
  first-node : x.left ≡ 0 → FirstTakes p q n x x.right
  first-node none key word tall nested leaf right hs h =
      let a = opened key word tall nested leaf right hs h in
      taken_as q x x.right (item key word nested) (first key word nested leaf) right (without_first key word nested leaf right) hs
      (first_leaf key word nested) (without_first-leaf key word nested right)
      record {
        key_is = a.key_is;
        word_is = a.word_is;
        holds = holds-nothing q x.left leaf (held x.nested nested ∷ held x.right right ∷ hs) none a.holds;
      }
  first-node none key word tall nested (fork lower under high inner before middle) right hs h =
      let a = opened key word tall nested (fork lower under high inner before middle) right hs h in
      let some : 0 < x.left = (held-carries q x.left (fork lower under high inner before middle) _ a.holds).linked.0 in absurd (omega arith)

  pub first-here : (f : First) → f ≡ record { node = x; rest = x.right } → x.left ≡ 0 → FirstTakes p q n f.node f.rest
  first-here f is none = subst (λ (g : First). FirstTakes p q n g.node g.rest) (sym is) (first-node none)

  module _ (some : 0 < x.left) (q1 : Pool) (y : Node) (l : ℕ) (firsts : FirstTakes q q1 x.left y l) where
    module _ (key : Words) (word : ℤ) (tall : ℕ) (nested : Tree) (lower : Words) (under : ℤ) (high : ℕ) (inner before middle right : Tree) (hs : List Held)
        (h : Holds p (held n (fork key word tall nested (fork lower under high inner before middle) right) ∷ hs)) where
      lower-taken : FirstTaken q1 y l (first lower under inner before) (without_first lower under inner before middle) (held x.nested nested ∷ held x.right right ∷ hs)
      lower-taken =
          firsts lower under high inner before middle _ (opened key word tall nested (fork lower under high inner before middle) right hs h).holds

      rest-sides : Holds q1 (sides x l x.right nested (without_first lower under inner before middle) right (held y.nested (first lower under inner before).nested ∷ hs))
      rest-sides =
          first-fourth q1 (held y.nested (first lower under inner before).nested) (held l (without_first lower under inner before middle)) (held x.nested nested) (held x.right right) hs
          lower-taken.holds

    pub first-lower : (q2 : Pool) (m : ℕ) → Puts balance q1 q2 x l x.right m → FirstTakes p q2 n y m
    first-lower q2 m put key word tall nested leaf right hs h =
        let z : x.left ≡ 0 = (held-carries q x.left leaf _ (opened key word tall nested leaf right hs h).holds).linked in absurd (omega arith)
    first-lower q2 m put key word tall nested (fork lower under high inner before middle) right hs h =
        let a = opened key word tall nested (fork lower under high inner before middle) right hs h in
        let f = lower-taken key word tall nested lower under high inner before middle right hs h in
        let root : Item Words = first lower under inner before in
        let without : Tree = without_first lower under inner before middle in
        let built : Holds q2 (held m (balance key word nested without right) ∷ held y.nested root.nested ∷ hs) =
        same-root (λ k w. balance k w nested without right) q2 x m key word (held y.nested root.nested ∷ hs) a.key_is a.word_is
        (put nested without right _ (rest-sides key word tall nested lower under high inner before middle right hs h)) in
        taken_as q2 y m root (first key word nested (fork lower under high inner before middle)) (balance key word nested without right) (without_first key word nested (fork lower under high inner before middle) right) hs
        (first-fork key word nested lower under high inner before middle) (without_first-fork key word nested lower under high inner before middle right)
        record {
          key_is = f.key_is;
          word_is = f.word_is;
          holds = holds-swapped q2 (held m (balance key word nested without right)) (held y.nested root.nested) hs built;
        }

    rest-balanceable-of : (key : Words) (word : ℤ) (tall : ℕ) (nested left right : Tree) (hs : List Held)
        → Holds p (held n (fork key word tall nested left right) ∷ hs) → length hs + 2 * tall + 8 < 2 ^ 31
        → Balanced (fork key word tall nested left right) → tall ≤ 100 → Balanceable q1 (over x l x.right)
    rest-balanceable-of key word tall nested leaf right hs h few b low =
        let z : x.left ≡ 0 = (held-carries q x.left leaf _ (opened key word tall nested leaf right hs h).holds).linked in absurd (omega arith)
    rest-balanceable-of key word tall nested (fork lower under high inner before middle) right hs h few b low =
        let e : tall ≡ suc (max high (height right)) = b.0 in
        let s = without_first-shrunk lower under high inner before middle b.3 in
        record {
          nested = nested;
          l = without_first lower under inner before middle;
          r = right;
          others = held y.nested (first lower under inner before).nested ∷ hs;
          holds = rest-sides key word tall nested lower under high inner before middle right hs h;
          few = omega (arith, few);
          balanced_left = s.balanced;
          balanced_right = b.4;
          low_left = omega (arith, s.most);
          low_right = omega arith;
        }

    pub rest-balanceable : LowStanding p n → Balanceable q1 (over x l x.right)
    rest-balanceable d =
        rest-balanceable-of d.trees.key d.trees.word d.trees.tall d.trees.nested d.trees.left d.trees.right d.trees.others d.trees.holds d.few d.balanced d.low

-- ---- two sides joined

module _ (p : Pool) (left right : ℕ) where
  pub joined-right : left ≡ 0 → Joins p p left right right
  joined-right none leaf r hs h =
      subst (λ (t : Tree). Holds p (held right t ∷ hs)) (sym (join-left-leaf r)) (holds-nothing p left leaf (held right r ∷ hs) none h)
  joined-right none (fork key word tall nested before behind) r hs h =
      let some : 0 < left = (held-carries p left (fork key word tall nested before behind) _ h).linked.0 in absurd (omega arith)

  pub joined-left : right ≡ 0 → Joins p p left right left
  joined-left none l leaf hs h =
      subst (λ (t : Tree). Holds p (held left t ∷ hs)) (sym (join-right-leaf l))
      (holds-nothing p right leaf (held left l ∷ hs) none (holds-swapped p (held left l) (held right leaf) hs h))
  joined-left none l (fork key word tall nested before behind) hs h =
      let some : 0 < right = (held-carries p right (fork key word tall nested before behind) _ (holds-swapped p (held left l) (held right (fork key word tall nested before behind)) hs h)).linked.0 in
      absurd (omega arith)

  pub right-goes : Joinable p left right → Removable p right
  right-goes j =
      record {
        t = j.r;
        others = held left j.l ∷ j.others;
        holds = holds-swapped p (held left j.l) (held right j.r) j.others j.holds;
        few = omega (arith, j.few);
        balanced = j.balanced_right;
        low = j.low_right;
        room = j.room;
      }

  module _ (q : Pool) (y : Node) (rest : ℕ) (some_right : 0 < right) (firsts : FirstTakes p q right y rest) where
    module _ (l : Tree) (upper : Words) (word : ℤ) (high : ℕ) (nested before behind : Tree) (hs : List Held)
        (h : Holds p (held left l ∷ held right (fork upper word high nested before behind) ∷ hs)) where
      root-taken : FirstTaken q y rest (first upper word nested before) (without_first upper word nested before behind) (held left l ∷ hs)
      root-taken =
          firsts upper word high nested before behind _ (holds-swapped p (held left l) (held right (fork upper word high nested before behind)) hs h)

      joined-sides : Holds q (sides y left rest (first upper word nested before).nested l (without_first upper word nested before behind) hs)
      joined-sides =
          third-first q (held y.nested (first upper word nested before).nested) (held rest (without_first upper word nested before behind)) (held left l) hs
          root-taken.holds

    pub joined-both : 0 < left → (q2 : Pool) (n : ℕ) → Puts balance q q2 y left rest n → Joins p q2 left right n
    joined-both some q2 n put leaf r hs h = let z : left ≡ 0 = (held-carries p left leaf _ h).linked in absurd (omega arith)
    joined-both some q2 n put (fork lower under tall inner far middle) leaf hs h =
        let z : right ≡ 0 = (held-carries p right leaf _ (holds-swapped p (held left (fork lower under tall inner far middle)) (held right leaf) hs h)).linked in
        absurd (omega arith)
    joined-both some q2 n put (fork lower under tall inner far middle) (fork upper word high nested before behind) hs h =
        let l : Tree = fork lower under tall inner far middle in
        let root : Item Words = first upper word nested before in
        let without : Tree = without_first upper word nested before behind in
        let f = root-taken l upper word high nested before behind hs h in
        subst (λ (t : Tree). Holds q2 (held n t ∷ hs))
        (sym (join-forks lower under tall inner far middle upper word high nested before behind root refl))
        (same-root (λ k w. balance k w root.nested l without) q2 y n root.key root.word hs f.key_is f.word_is
        (put root.nested l without hs (joined-sides l upper word high nested before behind hs h)))

    joined-balanceable-of : (l r : Tree) (hs : List Held) → Holds p (held left l ∷ held right r ∷ hs) → length hs + 2 * height r + 10 < 2 ^ 31 → Balanced l
        → Balanced r → height l ≤ 100 → height r ≤ 100 → Balanceable q (over y left rest)
    joined-balanceable-of l leaf hs h few bl br low-l low-r =
        let z : right ≡ 0 = (held-carries p right leaf _ (holds-swapped p (held left l) (held right leaf) hs h)).linked in absurd (omega arith)
    joined-balanceable-of l (fork upper word high nested before behind) hs h few bl br low-l low-r =
        let s = without_first-shrunk upper word high nested before behind br in
        record {
          nested = (first upper word nested before).nested;
          l = l;
          r = without_first upper word nested before behind;
          others = hs;
          holds = joined-sides l upper word high nested before behind hs h;
          few = omega (arith, few);
          balanced_left = bl;
          balanced_right = s.balanced;
          low_left = low-l;
          low_right = omega (arith, s.most);
        }

    pub joined-balanceable : Joinable p left right → Balanceable q (over y left rest)
    joined-balanceable j =
        joined-balanceable-of j.l j.r j.others j.holds j.few j.balanced_left j.balanced_right j.low_left j.low_right

  pub second-carries : (l r : Tree) (hs : List Held) → Holds p (held left l ∷ held right r ∷ hs) → Carries p right r
  second-carries l r hs h = held-carries p right r _ (holds-swapped p (held left l) (held right r) hs h)
