-- What a pool holds on the way through a rotation.
use Rattle.std.proofs.Common.{◌≡◌, ℕ, suc, ◌+◌, ◌^◌, ◌<◌, ◌≤◌, max, List, ◌∷◌, length, ℤ, sym, refl, ap, ◌∙◌, subst, inl, inr, arith}
use Rattle.std.proofs.lemmas.Bool.{cases_lt}
use Rattle.pool.proofs.Pools.{held-carries, held-used}
use Rattle.pool.specs.Held.{Carries, Held, Holds, TakenApart, held}
use Rattle.pool.specs.Node.{node_at}
use Rattle.pool.specs.Sound.{memory_of, used_of}
use Rattle.pool.specs.Tree.{Tree, fork, leaf}
use Rattle.pool.specs.declared.node.Node.{Node}
use Rattle.pool.specs.declared.node.Words.{Words}
use Rattle.pool.specs.declared.pool.Pool.{Pool}
use Rattle.tree.proofs.Building.{left-carries, right-carries}
use Rattle.tree.proofs.Permuted.{first-third, five-reversed, reversed, third-first, three-behind-two, two-behind-three}
use Rattle.tree.proofs.Steps.{rotate_double-fork, rotate_left-double, rotate_left-single, rotate_right-double, rotate_right-single}
use Rattle.tree.specs.Append.{LeansRight}
use Rattle.tree.proofs.Sides.{over, sides, three_sides}
use Rattle.tree.specs.Ends.{at_end}
use Rattle.tree.specs.Ready.{Balanceable, Buildable, Doubled}
use Rattle.tree.specs.Rebuild.{node, rotate_double, rotate_left, rotate_right}
use Rattle.tree.specs.Shape.{Balanced, height}
use Rattle.tree.specs.declared.end.End.{End}
use Rattle.tree.specs.declared.end.End.TheVariants.{First, Last}

-- ---- what the calls do to the owners

-- a node is taken apart
abbrev pub Opens : Pool → Pool → ℕ → Node → Type 0
Opens p q n x =
    (key : Words) (word : ℤ) (tall : ℕ) (nested left right : Tree) (hs : List Held) → Holds p (held n (fork key word tall nested left right) ∷ hs)
    → TakenApart q x key word tall nested left right hs

-- two sides are put under a root, in the way of `build`
abbrev pub Puts : (Words → ℤ → Tree → Tree → Tree → Tree) → Pool → Pool → Node → ℕ → ℕ → ℕ → Type 0
Puts build p q root left right n =
    (nested l r : Tree) (hs : List Held) → Holds p (sides root left right nested l r hs) → Holds q (held n (build root.key root.word nested l r) ∷ hs)

-- the same where the call was handed an equal word
pub puts : (build : Words → ℤ → Tree → Tree → Tree → Tree) (p q : Pool) (root : Node) (left right n : ℕ) (word : ℤ)
    → ((nested l r : Tree) (hs : List Held) → Holds p (sides root left right nested l r hs) → Holds q (held n (build root.key word nested l r) ∷ hs))
    → word ≡ root.word → Puts build p q root left right n
puts build p q root left right n word put same nested l r hs h = subst (λ (w : ℤ). Holds q (held n (build root.key w nested l r) ∷ hs)) same (put nested l r hs h)

-- three sides are put under two roots
abbrev pub Doubles : Pool → Pool → Node → Node → ℕ → ℕ → ℕ → ℕ → Type 0
Doubles p q lower upper left middle right n =
    (inner nested l m r : Tree) (hs : List Held) → Holds p (three_sides lower upper left middle right inner nested l m r hs)
    → Holds q (held n (rotate_double lower.key lower.word inner upper.key upper.word nested l m r) ∷ hs)

-- a height is read
abbrev pub Measures : Pool → ℕ → ℕ → Type 0
Measures p n tall = (t : Tree) → Carries p n t → tall ≡ height t

-- a node taken apart does not add to the nodes in use
pub apart-fewer : (p : Pool) (x : Node) (n u v : ℕ) (t : Tree) (hs : List Held) → Holds p (held n t ∷ hs) → 0 < n → x ≡ node_at (memory_of p) n
    → (1 < x.count → v ≡ u) → (x.count ≡ 1 → v + 1 ≡ u) → v ≤ u
apart-fewer p x n u v t hs h numbered is shared last =
    let some : 0 < x.count = subst (λ (y : Node). 0 < y.count) (sym is) (held-used p n t hs h numbered) in
    elim (cases_lt 1 x.count) [
      | inl more ↦ (let e = shared more in omega arith)
      | inr one ↦ (let e = last (omega arith) in omega arith)
    ]

-- a node that was taken apart has the key and the word of its tree
pub same-root : (make : Words → ℤ → Tree) (q : Pool) (x : Node) (n : ℕ) (key : Words) (word : ℤ) (hs : List Held) → x.key ≡ key → x.word ≡ word
    → Holds q (held n (make x.key x.word) ∷ hs) → Holds q (held n (make key word) ∷ hs)
same-root make q x n key word hs e f h =
    subst (λ (w : ℤ). Holds q (held n (make key w) ∷ hs)) f (subst (λ (k : Words). Holds q (held n (make k x.word) ∷ hs)) e h)

-- the node of a tree that has nodes
pub numbered-fork : (p : Pool) (n : ℕ) (t : Tree) → Carries p n t → 0 < height t → 0 < n
numbered-fork p n leaf c h = absurd (omega arith)
numbered-fork p n (fork key word tall nested left right) c h = c.linked.0

-- ---- a double rotation

-- two roots with three sides, of which the middle one has nodes
pub record Three (p : Pool) (lower upper : Node) (left middle right : ℕ) : Type 0 where
  pub inner : Tree
  pub nested : Tree
  pub l : Tree
  pub r : Tree
  pub key : Words
  pub word : ℤ
  pub tall : ℕ
  pub within : Tree
  pub before : Tree
  pub behind : Tree
  pub others : List Held
  pub holds : Holds p (three_sides lower upper left middle right inner nested l (fork key word tall within before behind) r others)

abbrev pub three : {p : Pool} {lower upper : Node} {middle : ℕ} → Doubled p lower upper middle → Three p lower upper lower.left middle upper.right
three d =
    record {
      inner = d.inner;
      nested = d.nested;
      l = d.l;
      r = d.r;
      key = d.key;
      word = d.word;
      tall = d.tall;
      within = d.within;
      before = d.before;
      behind = d.behind;
      others = d.others;
      holds = d.holds;
    }

module _ {p : Pool} {lower upper : Node} {left middle right : ℕ} (d : Three p lower upper left middle right) where
  abbrev pub middle_tree : Tree
  middle_tree = fork d.key d.word d.tall d.within d.before d.behind

  -- the middle side first
  pub middle-first : Holds p (held middle middle_tree ∷ held left d.l ∷ held lower.nested d.inner ∷ held upper.nested d.nested ∷ held right d.r ∷ d.others)
  middle-first =
      third-first p (held left d.l) (held lower.nested d.inner) (held middle middle_tree) (held upper.nested d.nested ∷ held right d.r ∷ d.others) d.holds

  pub middle-numbered : 0 < middle
  middle-numbered = (held-carries p middle middle_tree _ middle-first).linked.0

  module _ (q : Pool) (x : Node) (opened : Opens p q middle x) where
    pub middle-apart : TakenApart q x d.key d.word d.tall d.within d.before d.behind (held left d.l ∷ held lower.nested d.inner ∷ held upper.nested d.nested ∷ held right d.r ∷ d.others)
    middle-apart = opened d.key d.word d.tall d.within d.before d.behind _ middle-first

    pub lower-sides : Holds q (sides lower left x.left d.inner d.l d.before (held x.nested d.within ∷ held x.right d.behind ∷ held upper.nested d.nested ∷ held right d.r ∷ d.others))
    lower-sides =
        three-behind-two q (held x.left d.before) (held x.nested d.within) (held x.right d.behind) (held left d.l) (held lower.nested d.inner) (held upper.nested d.nested ∷ held right d.r ∷ d.others)
        middle-apart.holds

    module _ (q1 : Pool) (a : ℕ) (first : Puts node q q1 lower left x.left a) where
      abbrev pub lower_tree : Tree
      lower_tree = node lower.key lower.word d.inner d.l d.before

      pub upper-sides : Holds q1 (sides upper x.right right d.nested d.behind d.r (held a lower_tree ∷ held x.nested d.within ∷ d.others))
      upper-sides =
          two-behind-three q1 (held a lower_tree) (held x.nested d.within) (held x.right d.behind) (held upper.nested d.nested) (held right d.r) d.others
          (first d.inner d.l d.before _ lower-sides)

      module _ (q2 : Pool) (b : ℕ) (second : Puts node q1 q2 upper x.right right b) where
        abbrev pub upper_tree : Tree
        upper_tree = node upper.key upper.word d.nested d.behind d.r

        pub new-sides : Holds q2 (sides x a b d.within lower_tree upper_tree d.others)
        new-sides =
            first-third q2 (held b upper_tree) (held a lower_tree) (held x.nested d.within) d.others
            (second d.nested d.behind d.r _ upper-sides)

        pub double-rotated : (q3 : Pool) (n : ℕ) → Puts node q2 q3 x a b n
            → Holds q3 (held n (rotate_double lower.key lower.word d.inner upper.key upper.word d.nested d.l middle_tree d.r) ∷ d.others)
        double-rotated q3 n third =
            subst (λ (t : Tree). Holds q3 (held n t ∷ d.others))
            (sym (rotate_double-fork lower.key lower.word d.inner upper.key upper.word d.nested d.l d.r d.key d.word d.tall d.within d.before d.behind))
            (same-root (λ key word. node key word d.within lower_tree upper_tree) q3 x n d.key d.word d.others
            middle-apart.key_is middle-apart.word_is (third d.within lower_tree upper_tree d.others new-sides))

pub rotated-double : (p q q1 q2 q3 : Pool) (lower upper x : Node) (left middle right a b n : ℕ) → 0 < middle → Opens p q middle x
    → Puts node q q1 lower left x.left a → Puts node q1 q2 upper x.right right b → Puts node q2 q3 x a b n
    → Doubles p q3 lower upper left middle right n
rotated-double p q q1 q2 q3 lower upper x left middle right a b n numbered opened first second third inner nested l leaf r hs h =
    let z : middle ≡ 0 =
    (held-carries p middle leaf _
    (third-first p (held left l) (held lower.nested inner) (held middle leaf) (held upper.nested nested ∷ held right r ∷ hs) h)).linked in
    absurd (omega arith)
rotated-double p q q1 q2 q3 lower upper x left middle right a b n numbered opened first second third inner nested l (fork key word tall within before behind) r hs h =
    let d : Three p lower upper left middle right =
    record {
      inner = inner;
      nested = nested;
      l = l;
      r = r;
      key = key;
      word = word;
      tall = tall;
      within = within;
      before = before;
      behind = behind;
      others = hs;
      holds = h;
    } in
    double-rotated d q x opened q1 a first q2 b second q3 n third

-- a middle side that is higher than another has nodes, and can come up
pub doubled-ready : (p : Pool) (lower upper : Node) (middle : ℕ) (inner nested l m r : Tree) (hs : List Held)
    → Holds p (three_sides lower upper lower.left middle upper.right inner nested l m r hs) → length hs + 6 < 2 ^ 31 → height l ≤ 100 → Balanced m
    → height m ≤ 100 → height r ≤ 100 → 0 < height m → Doubled p lower upper middle
doubled-ready p lower upper middle inner nested l leaf r hs h few low-l b low-m low-r some = absurd (omega arith)
doubled-ready p lower upper middle inner nested l (fork key word tall within before behind) r hs h few low-l b low-m low-r some =
    let e : tall ≡ suc (max (height before) (height behind)) = b.0 in
    record {
      inner = inner;
      nested = nested;
      l = l;
      r = r;
      key = key;
      word = word;
      tall = tall;
      within = within;
      before = before;
      behind = behind;
      others = hs;
      holds = h;
      few = few;
      low_left = omega arith;
      low_before = omega arith;
      low_behind = omega arith;
      low_right = omega arith;
    }

-- ---- seen from an end: what is on the end first

-- what holds of both holds of the one by the end
both : (e : End) (P : Tree → Type 0) (t u : Tree) → P t → P u → P (at_end e t u)
both First P t u x y = x
both Last P t u x y = y

-- the owners of a root's nested tree and of its two sides
turned : (e : End) (p : Pool) (root : Node) (left right : ℕ) (nested l r : Tree) (hs : List Held) → Holds p (sides root left right nested l r hs)
    → Holds p (sides root (at_end e left right) (at_end e right left) nested (at_end e l r) (at_end e r l) hs)
turned First p root left right nested l r hs h = h
turned Last p root left right nested l r hs h = reversed p (held left l) (held root.nested nested) (held right r) hs h

-- the owners of the nested trees of two roots, of which x was on a side of the other, and of three sides
three-turned : (e : End) (p : Pool) (x root lower upper : Node) (outer middle far : ℕ) (inner nested o m f : Tree) (hs : List Held)
    → outer ≡ at_end e x.left x.right → far ≡ at_end e root.right root.left → lower ≡ at_end e x root → upper ≡ at_end e root x
    → Holds p (three_sides x root outer middle far inner nested o m f hs)
    → Holds p (three_sides lower upper lower.left middle upper.right (at_end e inner nested) (at_end e nested inner) (at_end e o f) m (at_end e f o) hs)
three-turned First p x root lower upper outer middle far inner nested o m f hs on off low high h = rw (low, high) (rw (on, off) at h)
three-turned Last p x root lower upper outer middle far inner nested o m f hs on off low high h =
    rw (low, high)
    (five-reversed p (held x.right o) (held x.nested inner) (held middle m) (held root.nested nested) (held root.left f) hs (rw (on, off) at h))

-- two sides are put under a root
abbrev pub Joins : End → Pool → Pool → Node → ℕ → ℕ → ℕ → Type 0
Joins e p q root near far n =
    (nested s t : Tree) (hs : List Held) → Holds p (sides root near far nested s t hs)
    → Holds q (held n (node root.key root.word nested (at_end e s t) (at_end e t s)) ∷ hs)

module _ (e : End) (p : Pool) (root x : Node) (near far : ℕ) (is : x ≡ over root (at_end e near far) (at_end e far near)) where
  pub joins : (q : Pool) (n : ℕ) → Puts node p q x x.left x.right n → Joins e p q root near far n
  joins q n put nested s t hs h =
      subst (λ (y : Node). Puts node p q y y.left y.right n) is put nested (at_end e s t) (at_end e t s) hs (turned e p root near far nested s t hs h)

  buildable : (nested s t : Tree) (hs : List Held) → Holds p (sides root near far nested s t hs) → height s ≤ 254 → height t ≤ 254 → Buildable p x
  buildable nested s t hs h low-s low-t =
      subst (Buildable p) (sym is)
      (record {
        nested = nested;
        l = at_end e s t;
        r = at_end e t s;
        others = hs;
        holds = turned e p root near far nested s t hs h;
        low_left = both e (λ (u : Tree). height u ≤ 254) s t low-s low-t;
        low_right = both e (λ (u : Tree). height u ≤ 254) t s low-t low-s;
      })

-- ---- a rotation: the side on an end comes up

-- the root rotated, over the near side and the far one
abbrev rotated : End → Words → ℤ → Tree → Tree → Tree → Tree
rotated e words word nested near far = at_end e rotate_right rotate_left words word nested (at_end e near far) (at_end e far near)

-- a double rotation of the code gives the root rotated
double-is : (e : End) (x root lower upper : Node) (key : Words) (word : ℤ) (tall : ℕ) (inner before behind nested far : Tree)
    → lower ≡ at_end e x root → upper ≡ at_end e root x → x.key ≡ key → x.word ≡ word → height (at_end e before behind) < height (at_end e behind before)
    → rotate_double lower.key lower.word (at_end e inner nested) upper.key upper.word (at_end e nested inner) (at_end e (at_end e before behind) far)
    (at_end e behind before) (at_end e far (at_end e before behind))
    ≡ rotated e root.key root.word nested (fork key word tall inner before behind) far
double-is First x root lower upper key word tall inner before behind nested far low high k w h =
    rw (low, high, k, w) (sym (rotate_right-double root.key root.word nested key word tall inner before behind far h))
double-is Last x root lower upper key word tall inner before behind nested far low high k w h =
    rw (low, high, k, w) (sym (rotate_left-double root.key root.word nested key word tall inner far before behind h))

-- and so does a single one
single-is : (e : End) (x root : Node) (key : Words) (word : ℤ) (tall : ℕ) (inner before behind nested far below : Tree)
    → below ≡ node root.key root.word nested (at_end e (at_end e behind before) far) (at_end e far (at_end e behind before))
    → x.key ≡ key → x.word ≡ word → height (at_end e behind before) ≤ height (at_end e before behind)
    → node x.key x.word inner (at_end e (at_end e before behind) below) (at_end e below (at_end e before behind))
    ≡ rotated e root.key root.word nested (fork key word tall inner before behind) far
single-is First x root key word tall inner before behind nested far below is k w h =
    rw (is, k, w) (sym (rotate_right-single root.key root.word nested key word tall inner before behind far h))
single-is Last x root key word tall inner before behind nested far below is k w h =
    rw (is, k, w) (sym (rotate_left-single root.key root.word nested key word tall inner far before behind h))

-- a root with two sides, of which the near one has nodes
pub record High (e : End) (p : Pool) (root : Node) (near far : ℕ) : Type 0 where
  pub nested : Tree
  pub key : Words
  pub word : ℤ
  pub tall : ℕ
  pub inner : Tree
  pub before : Tree
  pub behind : Tree
  pub other : Tree
  pub others : List Held
  pub holds : Holds p (sides root near far nested (fork key word tall inner before behind) other others)

module _ {e : End} {p : Pool} {root : Node} {near far : ℕ} (d : High e p root near far) where
  abbrev near_tree : Tree
  near_tree = fork d.key d.word d.tall d.inner d.before d.behind

  abbrev outer_tree : Tree
  outer_tree = at_end e d.before d.behind

  abbrev between : Tree
  between = at_end e d.behind d.before

-- a near side with a number has nodes
by-near : (e : End) (p : Pool) (root : Node) (near far : ℕ) → 0 < near → (P : Tree → Tree → Tree → List Held → Type 0)
    → ((d : High e p root near far) → P d.nested (near_tree d) d.other d.others) → (nested s t : Tree) (hs : List Held)
    → Holds p (sides root near far nested s t hs) → P nested s t hs
by-near e p root near far numbered P here nested leaf t hs h = let z : near ≡ 0 = (held-carries p near leaf _ h).linked in absurd (omega arith)
by-near e p root near far numbered P here nested (fork key word tall inner before behind) t hs h =
    here
    (record {
      nested = nested;
      key = key;
      word = word;
      tall = tall;
      inner = inner;
      before = before;
      behind = behind;
      other = t;
      others = hs;
      holds = h;
    })

-- a root with a near side that has a number
pub record Faced (e : End) (root : Node) (near far : ℕ) : Type 0 where
  pub numbered : 0 < near
  pub near_is : near ≡ at_end e root.left root.right
  pub far_is : far ≡ at_end e root.right root.left

pub faced : (e : End) {root : Node} {near far : ℕ} → 0 < at_end e root.left root.right → near ≡ at_end e root.left root.right
    → far ≡ at_end e root.right root.left → Faced e root near far
faced e numbered on off = record { numbered = omega arith; near_is = on; far_is = off }

-- what holds wherever the near side has nodes holds of the root's own sides
by-end : (e : End) {p : Pool} {root : Node} {near far : ℕ} → Faced e root near far → (P : Tree → Tree → Tree → List Held → Type 0)
    → ((d : High e p root near far) → P d.nested (at_end e (near_tree d) d.other) (at_end e d.other (near_tree d)) d.others) → (nested l r : Tree)
    (hs : List Held) → Holds p (sides root root.left root.right nested l r hs) → P nested l r hs
by-end First {p = p} {root = root} {near = near} {far = far} f P here nested l r hs h =
    by-near First p root near far f.numbered P here nested l r hs (rw (f.near_is, f.far_is) h)
by-end Last {p = p} {root = root} {near = near} {far = far} f P here nested l r hs h =
    by-near Last p root near far f.numbered (λ nested s t hs. P nested t s hs) here nested r l hs
    (rw (f.near_is, f.far_is) (reversed p (held root.left l) (held root.nested nested) (held root.right r) hs h))

-- the same with heights that fit
pub record Low (e : End) (p : Pool) (root : Node) (near far : ℕ) : Type 0 where
  pub trees : High e p root near far
  pub few : length trees.others + 8 < 2 ^ 31
  pub balanced : Balanced (between trees)
  pub low_outer : height (outer_tree trees) ≤ 99
  pub low_between : height (between trees) ≤ 99
  pub low_far : height trees.other ≤ 100

low-of : {e : End} {p : Pool} {root : Node} {near far : ℕ} (d : High e p root near far) → length d.others + 8 < 2 ^ 31 → Balanced (near_tree d)
    → height (near_tree d) ≤ 100 → height d.other ≤ 100 → Low e p root near far
low-of {e = e} d few b low-near low_far =
    let high : d.tall ≡ suc (max (height d.before) (height d.behind)) = b.0 in
    let low-before : height d.before ≤ 99 = omega arith in
    let low-behind : height d.behind ≤ 99 = omega arith in
    record {
      trees = d;
      few = few;
      balanced = both e Balanced d.behind d.before b.4 b.3;
      low_outer = both e (λ (t : Tree). height t ≤ 99) d.before d.behind low-before low-behind;
      low_between = both e (λ (t : Tree). height t ≤ 99) d.behind d.before low-behind low-before;
      low_far = low_far;
    }

pub low : (e : End) {p : Pool} {root : Node} {near far : ℕ} → Faced e root near far → Balanceable p root → Low e p root near far
low e {p = p} {root = root} {near = near} {far = far} f b =
    by-near e p root near far f.numbered
    (λ nested s t hs. length hs + 8 < 2 ^ 31 → Balanced s → height s ≤ 100 → height t ≤ 100 → Low e p root near far)
    low-of b.nested (at_end e b.l b.r) (at_end e b.r b.l) b.others
    (rw (f.near_is, f.far_is) (turned e p root root.left root.right b.nested b.l b.r b.others b.holds)) b.few
    (both e Balanced b.l b.r b.balanced_left b.balanced_right)
    (both e (λ (t : Tree). height t ≤ 100) b.l b.r b.low_left b.low_right)
    (both e (λ (t : Tree). height t ≤ 100) b.r b.l b.low_right b.low_left)

-- the root of the near side, taken apart: x, over an outer side and a middle one
pub record Parted (e : End) (p q : Pool) (root x : Node) (near far outer middle : ℕ) : Type 0 where
  pub ready : Balanceable p root
  pub faced : Faced e root near far
  pub node_is : x ≡ node_at (memory_of p) near
  pub opened : Opens p q near x
  pub fewer : used_of q ≤ used_of p
  pub last : x.count ≡ 1 → used_of q + 1 ≡ used_of p
  pub outer_is : outer ≡ at_end e x.left x.right
  pub middle_is : middle ≡ at_end e x.right x.left

pub parted : (e : End) {p q : Pool} {root x : Node} {near far outer middle : ℕ} → Balanceable p root → Faced e root near far
    → x ≡ node_at (memory_of p) near → Opens p q near x → (1 < x.count → used_of q ≡ used_of p) → (x.count ≡ 1 → used_of q + 1 ≡ used_of p)
    → outer ≡ at_end e x.left x.right → middle ≡ at_end e x.right x.left → Parted e p q root x near far outer middle
parted e {p = p} {q = q} {x = x} {near = near} b f node opened shared last on off =
    let d = (low e f b).trees in
    record {
      ready = b;
      faced = f;
      node_is = node;
      opened = opened;
      fewer = apart-fewer p x near (used_of p) (used_of q) (near_tree d) _ d.holds f.numbered node shared last;
      last = last;
      outer_is = on;
      middle_is = off;
    }

module _ {e : End} {p q : Pool} {root x : Node} {near far outer middle : ℕ} (s : Parted e p q root x near far outer middle) where
  module _ (d : High e p root near far) where
    abbrev below_tree : Tree
    below_tree = node root.key root.word d.nested (at_end e (between d) d.other) (at_end e d.other (between d))

    apart : TakenApart q x d.key d.word d.tall d.inner d.before d.behind (held root.nested d.nested ∷ held far d.other ∷ d.others)
    apart = s.opened d.key d.word d.tall d.inner d.before d.behind _ d.holds

    three-held : Holds q (three_sides x root outer middle far d.inner d.nested (outer_tree d) (between d) d.other d.others)
    three-held = rw (s.outer_is, s.middle_is) (turned e q x x.left x.right d.inner d.before d.behind _ apart.holds)

    outer-carries : Carries q outer (outer_tree d)
    outer-carries = left-carries q x outer middle d.inner (outer_tree d) (between d) _ three-held

    middle-carries : Carries q middle (between d)
    middle-carries = right-carries q x outer middle d.inner (outer_tree d) (between d) _ three-held

    below-sides : Holds q (sides root middle far d.nested (between d) d.other (held outer (outer_tree d) ∷ held x.nested d.inner ∷ d.others))
    below-sides =
        two-behind-three q (held outer (outer_tree d)) (held x.nested d.inner) (held middle (between d)) (held root.nested d.nested) (held far d.other)
        d.others three-held

    module _ (lower upper : Node) (low_is : lower ≡ at_end e x root) (high_is : upper ≡ at_end e root x) where
      three-ready : Holds q (three_sides lower upper lower.left middle upper.right (at_end e d.inner d.nested) (at_end e d.nested d.inner)
          (at_end e (outer_tree d) d.other) (between d) (at_end e d.other (outer_tree d)) d.others)
      three-ready =
          three-turned e q x root lower upper outer middle far d.inner d.nested (outer_tree d) (between d) d.other d.others s.outer_is s.faced.far_is
          low_is high_is three-held

      doubled : (q2 : Pool) (n : ℕ) → Doubles q q2 lower upper lower.left middle upper.right n → height (outer_tree d) < height (between d)
          → Holds q2 (held n (rotated e root.key root.word d.nested (near_tree d) d.other) ∷ d.others)
      doubled q2 n twice higher =
          subst (λ (t : Tree). Holds q2 (held n t ∷ d.others))
          (double-is e x root lower upper d.key d.word d.tall d.inner d.before d.behind d.nested d.other low_is high_is apart.key_is apart.word_is higher)
          (twice _ _ _ _ _ d.others three-ready)

    module _ (q1 : Pool) (below : ℕ) (first : Joins e q q1 root middle far below) where
      top-sides : Holds q1 (sides x outer below d.inner (outer_tree d) below_tree d.others)
      top-sides =
          first-third q1 (held below below_tree) (held outer (outer_tree d)) (held x.nested d.inner) d.others
          (first d.nested (between d) d.other _ below-sides)

      single : (q2 : Pool) (n : ℕ) → Joins e q1 q2 x outer below n → height (between d) ≤ height (outer_tree d)
          → Holds q2 (held n (rotated e root.key root.word d.nested (near_tree d) d.other) ∷ d.others)
      single q2 n second lower =
          subst (λ (t : Tree). Holds q2 (held n t ∷ d.others))
          (single-is e x root d.key d.word d.tall d.inner d.before d.behind d.nested d.other below_tree refl apart.key_is apart.word_is lower)
          (second d.inner (outer_tree d) below_tree d.others top-sides)

  -- what the calls need
  pub outer-carried : (t : Tree) × Carries q outer t
  outer-carried = (_, outer-carries (low e s.faced s.ready).trees)

  pub middle-carried : (t : Tree) × Carries q middle t
  middle-carried = (_, middle-carries (low e s.faced s.ready).trees)

  pub below-ready : (y : Node) → y ≡ over root (at_end e middle far) (at_end e far middle) → Buildable q y
  below-ready y is =
      let l = low e s.faced s.ready in
      buildable e q root y middle far is _ _ _ _ (below-sides l.trees) (omega (arith, l.low_between)) (omega (arith, l.low_far))

  pub top-ready : (q1 : Pool) (below : ℕ) → Joins e q q1 root middle far below → (y : Node)
      → y ≡ over x (at_end e outer below) (at_end e below outer) → Buildable q1 y
  top-ready q1 below first y is =
      let l = low e s.faced s.ready in
      let d = l.trees in
      let low-left : height (at_end e (between d) d.other) ≤ 100 = both e (λ (t : Tree). height t ≤ 100) (between d) d.other (omega (arith, l.low_between)) l.low_far in
      let low-right : height (at_end e d.other (between d)) ≤ 100 = both e (λ (t : Tree). height t ≤ 100) d.other (between d) l.low_far (omega (arith, l.low_between)) in
      buildable e q1 x y outer below is _ _ _ _ (top-sides l.trees q1 below first) (omega (arith, l.low_outer)) (omega (arith, low-left, low-right))

  -- the two heights that are read
  module _ (tall inside : ℕ) (tall_is : Measures q outer tall) (inside_is : Measures q middle inside) where
    module _ (lower upper : Node) (low_is : lower ≡ at_end e x root) (high_is : upper ≡ at_end e root x) (test : tall < inside) where
      pub double-ready : Doubled q lower upper middle
      double-ready =
          let l = low e s.faced s.ready in
          let d = l.trees in
          let above = inside_is _ (middle-carries d) in
          doubled-ready q lower upper middle _ _ _ (between d) _ d.others (three-ready d lower upper low_is high_is) (omega (arith, l.few))
          (both e (λ (t : Tree). height t ≤ 100) (outer_tree d) d.other (omega (arith, l.low_outer)) l.low_far) l.balanced (omega (arith, l.low_between))
          (both e (λ (t : Tree). height t ≤ 100) d.other (outer_tree d) l.low_far (omega (arith, l.low_outer))) (omega arith)

      pub rotated-twice : (q2 : Pool) (n : ℕ) → Doubles q q2 lower upper lower.left middle upper.right n
          → Puts (at_end e rotate_right rotate_left) p q2 root root.left root.right n
      rotated-twice q2 n twice =
          by-end e s.faced (λ nested l r hs. Holds q2 (held n (at_end e rotate_right rotate_left root.key root.word nested l r) ∷ hs))
          (λ d. doubled d lower upper low_is high_is q2 n twice (omega (arith, tall_is _ (outer-carries d), inside_is _ (middle-carries d))))

    pub rotated-once : (q1 q2 : Pool) (below n : ℕ) → inside ≤ tall → Joins e q q1 root middle far below → Joins e q1 q2 x outer below n
        → Puts (at_end e rotate_right rotate_left) p q2 root root.left root.right n
    rotated-once q1 q2 below n test first second =
        by-end e s.faced (λ nested l r hs. Holds q2 (held n (at_end e rotate_right rotate_left root.key root.word nested l r) ∷ hs))
        (λ d. single d q1 below first q2 n second (omega (arith, tall_is _ (outer-carries d), inside_is _ (middle-carries d))))

    -- a right side that leans to the right is not rotated twice
    pub leans-single : e ≡ Last → (nested l r : Tree) (hs : List Held) → Holds p (sides root root.left root.right nested l r hs) → LeansRight r
        → inside ≤ tall
    leans-single is =
        by-end e s.faced (λ nested l r hs. LeansRight r → inside ≤ tall)
        (λ d leans.
        let lower : height (between d) ≤ height (outer_tree d) =
        subst (λ (o : End). LeansRight (at_end o d.other (near_tree d)) → height (at_end o d.behind d.before) ≤ height (at_end o d.before d.behind))
        (sym is) (λ h. h) leans in
        omega (arith, tall_is _ (outer-carries d), inside_is _ (middle-carries d)))

  -- the end is the last, and the right side has no other owner
  pub last-less : e ≡ Last → (node_at (memory_of p) root.right).count ≡ 1 → used_of q + 1 ≡ used_of p
  last-less is one =
      let right : near ≡ root.right = subst (λ (o : End). near ≡ at_end o root.left root.right) is s.faced.near_is in
      s.last (ap (λ (y : Node). y.count) s.node_is ∙ ap (λ (n : ℕ). (node_at (memory_of p) n).count) right ∙ one)
