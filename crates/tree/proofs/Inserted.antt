-- What a pool holds on the way through an insert.
use Rattle.std.proofs.Common.{◌≡◌, ℕ, ◌+◌, ◌*◌, ◌^◌, ◌<◌, ◌≤◌, List, ◌∷◌, length, ℤ, Ordering, Less, Equal, Greater, sym, refl, ◌∙◌, subst, inl, inr, arith}
use Rattle.std.proofs.lemmas.Bool.{cases_lt}
use Rattle.pool.proofs.Pools.{held-carries, holds-leaf}
use Rattle.pool.proofs.Trees.{same-fork}
use Rattle.pool.specs.Held.{Carries, Held, Holds, TakenApart, held}
use Rattle.pool.specs.Node.{node_at}
use Rattle.pool.specs.Sound.{memory_of, used_of}
use Rattle.pool.specs.Tree.{Tree, fork, leaf}
use Rattle.pool.specs.declared.node.Node.{Node}
use Rattle.pool.specs.declared.node.Words.{Words}
use Rattle.pool.specs.declared.pool.Pool.{Pool}
use Rattle.tree.proofs.Appends.{appended-leans}
use Rattle.tree.proofs.Balances.{insert-grown}
use Rattle.tree.proofs.Permuted.{first-third, fourth-second, pairs-swapped, third-second, two-behind-two}
use Rattle.tree.proofs.Rotating.{Opens, Puts, same-root}
use Rattle.tree.proofs.Standing.{Standing, key-placed, left-lower, right-lower, standing-only, stood-apart}
use Rattle.tree.proofs.Steps.{insert-equal, insert-greater, insert-leaf, insert-less}
use Rattle.tree.specs.Append.{Behind, LeansRight}
use Rattle.tree.specs.Insert.{Present, insert, on_side}
use Rattle.tree.specs.Insertable.{Insertable, entry_of, replacing}
use Rattle.tree.proofs.Sides.{over, sides}
use Rattle.tree.specs.Ready.{Balanceable}
use Rattle.tree.specs.Rebuild.{balance, node}
use Rattle.tree.specs.Shape.{Balanced, height}

-- a key with its value goes into the tree of a node
abbrev pub Inserts : (Words → Ordering) → Words → ℤ → Pool → Pool → ℕ → ℕ → ℕ → Type 0
Inserts place new word p q n link m =
    (t nested : Tree) (hs : List Held) → Holds p (held n t ∷ held link nested ∷ hs) → Holds q (held m (insert place new word nested t) ∷ hs)

-- a node that was taken apart is put together again with another value
abbrev pub Replaces : ℤ → Pool → Pool → Node → ℕ → ℕ → Type 0
Replaces word p q x link m =
    (old nested left right : Tree) (hs : List Held) → Holds p (replacing x link old nested left right hs)
    → Holds q (held m (fork x.key word x.height nested left right) ∷ hs)

less-or-greater : (o : Ordering) → o ≡ Less → o ≡ Greater → ⊥
less-or-greater o e f = let z : ◌≡◌ {A = ℕ} 0 1 = cc in omega arith

-- ---- a tree of no nodes

module _ (p : Pool) (n link : ℕ) (none : n ≡ 0) (words : Words) (word : ℤ) (y : Node) (is : y ≡ entry_of words word link) where
  pub entry-sides : (t nested : Tree) (hs : List Held) → Holds p (held n t ∷ held link nested ∷ hs) → Holds p (sides y y.left y.right nested leaf leaf hs)
  entry-sides leaf nested hs h =
      let at : Holds p (held 0 leaf ∷ held link nested ∷ hs) = subst (λ (i : ℕ). Holds p (held i leaf ∷ held link nested ∷ hs)) none h in
      let both : Holds p (held 0 leaf ∷ held 0 leaf ∷ held link nested ∷ hs) = holds-leaf p 0 leaf (held 0 leaf ∷ held link nested ∷ hs) refl refl at in
      subst (λ (z : Node). Holds p (sides z z.left z.right nested leaf leaf hs)) (sym is)
      (third-second p (held 0 leaf) (held 0 leaf) (held link nested) hs both)
  entry-sides (fork key held_word tall inner left right) nested hs h =
      let some : 0 < n = (held-carries p n (fork key held_word tall inner left right) _ h).linked.0 in absurd (omega arith)

  pub inserted-leaf : (place : Words → Ordering) (q : Pool) (m : ℕ) → Puts node p q y y.left y.right m → Inserts place words word p q n link m
  inserted-leaf place q m put leaf nested hs h =
      subst (λ (t : Tree). Holds q (held m t ∷ hs)) (sym (insert-leaf place words word nested))
      (subst (λ (z : Node). Holds q (held m (node z.key z.word nested leaf leaf) ∷ hs)) is
      (put nested leaf leaf hs (entry-sides leaf nested hs h)))
  inserted-leaf place q m put (fork key held_word tall inner left right) nested hs h =
      let some : 0 < n = (held-carries p n (fork key held_word tall inner left right) _ h).linked.0 in absurd (omega arith)

-- ---- a tree with nodes

pub record Forked (p : Pool) (n link : ℕ) : Type 0 where
  pub key : Words
  pub word : ℤ
  pub tall : ℕ
  pub inner : Tree
  pub left : Tree
  pub right : Tree
  pub nested : Tree
  pub others : List Held
  pub holds : Holds p (held n (fork key word tall inner left right) ∷ held link nested ∷ others)

-- the owner of the value's nested tree is one of the others
abbrev pub standing : {p : Pool} {n link : ℕ} → Forked p n link → Standing p n
standing {link = link} d =
    record {
      key = d.key;
      word = d.word;
      tall = d.tall;
      nested = d.inner;
      left = d.left;
      right = d.right;
      others = held link d.nested ∷ d.others;
      holds = d.holds;
    }

abbrev whole : {p : Pool} {n link : ℕ} → Forked p n link → Tree
whole d = fork d.key d.word d.tall d.inner d.left d.right

-- the same, where a key can go in
pub record LowFork (p : Pool) (n link : ℕ) : Type 0 where
  pub trees : Forked p n link
  pub few : length trees.others + 2 * trees.tall + 8 < 2 ^ 31
  pub balanced : Balanced (whole trees)
  pub low : trees.tall ≤ 99
  pub room : used_of p + 3 * trees.tall + 1 ≤ length (memory_of p)

low-fork-of : (p : Pool) (n link : ℕ) (t nested : Tree) (hs : List Held) → Holds p (held n t ∷ held link nested ∷ hs)
    → length hs + 2 * height t + 8 < 2 ^ 31 → Balanced t → height t ≤ 99 → used_of p + 3 * height t + 1 ≤ length (memory_of p) → 0 < n → LowFork p n link
low-fork-of p n link leaf nested hs h few b low room numbered = let z : n ≡ 0 = (held-carries p n leaf _ h).linked in absurd (omega arith)
low-fork-of p n link (fork key word tall inner left right) nested hs h few b low room numbered =
    record {
      trees = record {
        key = key;
        word = word;
        tall = tall;
        inner = inner;
        left = left;
        right = right;
        nested = nested;
        others = hs;
        holds = h;
      };
      few = few;
      balanced = b;
      low = low;
      room = room;
    }

pub low-fork : {p : Pool} {n link : ℕ} → Insertable p n link → 0 < n → LowFork p n link
low-fork {p = p} {n = n} {link = link} i = low-fork-of p n link i.t i.nested i.others i.holds i.few i.balanced i.low i.room

-- the key is in no tree without nodes
pub none-present : (p : Pool) (n : ℕ) (t : Tree) (place : Words → Ordering) → n ≡ 0 → Carries p n t → Present place t → ⊥
none-present p n leaf place e c there = there
none-present p n (fork key word tall nested left right) place e c there = let some : 0 < n = c.linked.0 in omega arith

pub whole-behind : {p : Pool} {n link : ℕ} (d : Forked p n link) (t : Tree) → Carries p n t → (place : Words → Ordering) → Behind place t
    → (place d.key ≡ Greater) × Behind place d.right
whole-behind d t c place b = subst (Behind place) (standing-only (standing d) t c) b

module _ {p : Pool} {n link : ℕ} (d : Forked p n link) (q : Pool) (x : Node) (opened : Opens p q n x) where
  fork-apart : TakenApart q x d.key d.word d.tall d.inner d.left d.right (held link d.nested ∷ d.others)
  fork-apart = stood-apart (standing d) q x opened

  pub not_behind : (place : Words → Ordering) → place x.key ≡ Less → place d.key ≡ Greater → ⊥
  not_behind place less greater = less-or-greater (place d.key) (key-placed (standing d) q x opened place Less less) greater

  -- the key is on the side that the comparison says
  pub present-side : (t : Tree) → Carries p n t → (place : Words → Ordering) (o : Ordering) → place x.key ≡ o → Present place t
      → on_side o (Present place d.left) (Present place d.right)
  present-side t c place o e there =
      subst (λ (a : Ordering). on_side a (Present place d.left) (Present place d.right)) (key-placed (standing d) q x opened place o e)
      (subst (Present place) (standing-only (standing d) t c) there)

  pub into-left : Holds q (held x.left d.left ∷ held link d.nested ∷ held x.nested d.inner ∷ held x.right d.right ∷ d.others)
  into-left =
      fourth-second q (held x.left d.left) (held x.nested d.inner) (held x.right d.right) (held link d.nested) d.others fork-apart.holds

  pub into-right : Holds q (held x.right d.right ∷ held link d.nested ∷ held x.left d.left ∷ held x.nested d.inner ∷ d.others)
  into-right =
      two-behind-two q (held x.left d.left) (held x.nested d.inner) (held x.right d.right) (held link d.nested) d.others fork-apart.holds

  pub old-first : Holds q (replacing x link d.inner d.nested d.left d.right d.others)
  old-first =
      pairs-swapped q (held x.left d.left) (held x.nested d.inner) (held x.right d.right) (held link d.nested) d.others fork-apart.holds

  module _ (place : Words → Ordering) (new : Words) (word : ℤ) where
    -- the key goes into the left side
    module _ (q1 : Pool) (l : ℕ) (first : Inserts place new word q q1 x.left link l) where
      pub left-sides : Holds q1 (sides x l x.right d.inner (insert place new word d.nested d.left) d.right d.others)
      left-sides = first d.left d.nested _ into-left

      left-inserted : (q2 : Pool) (m : ℕ) → place x.key ≡ Less → Puts balance q1 q2 x l x.right m
          → Holds q2 (held m (insert place new word d.nested (whole d)) ∷ d.others)
      left-inserted q2 m less put =
          subst (λ (t : Tree). Holds q2 (held m t ∷ d.others))
          (sym (insert-less place new word d.nested d.key d.word d.tall d.inner d.left d.right (key-placed (standing d) q x opened place Less less)))
          (same-root (λ k w. balance k w d.inner (insert place new word d.nested d.left) d.right) q2 x m d.key d.word d.others
          fork-apart.key_is fork-apart.word_is (put d.inner (insert place new word d.nested d.left) d.right d.others left-sides))

    -- the key goes into the right side
    module _ (q1 : Pool) (r : ℕ) (first : Inserts place new word q q1 x.right link r) where
      pub right-sides : Holds q1 (sides x x.left r d.inner d.left (insert place new word d.nested d.right) d.others)
      right-sides =
          first-third q1 (held r (insert place new word d.nested d.right)) (held x.left d.left) (held x.nested d.inner) d.others
          (first d.right d.nested _ into-right)

      right-inserted : (q2 : Pool) (m : ℕ) → place x.key ≡ Greater → Puts balance q1 q2 x x.left r m
          → Holds q2 (held m (insert place new word d.nested (whole d)) ∷ d.others)
      right-inserted q2 m greater put =
          subst (λ (t : Tree). Holds q2 (held m t ∷ d.others))
          (sym (insert-greater place new word d.nested d.key d.word d.tall d.inner d.left d.right (key-placed (standing d) q x opened place Greater greater)))
          (same-root (λ k w. balance k w d.inner d.left (insert place new word d.nested d.right)) q2 x m d.key d.word d.others
          fork-apart.key_is fork-apart.word_is (put d.inner d.left (insert place new word d.nested d.right) d.others right-sides))

    -- the value takes the place of the old one
    value-replaced : (q1 : Pool) (m : ℕ) → place x.key ≡ Equal → Replaces word q q1 x link m
        → Holds q1 (held m (insert place new word d.nested (whole d)) ∷ d.others)
    value-replaced q1 m equal replaced =
        subst (λ (t : Tree). Holds q1 (held m t ∷ d.others))
        (same-fork fork-apart.key_is refl fork-apart.height_is refl refl refl
        ∙ sym (insert-equal place new word d.nested d.key d.word d.tall d.inner d.left d.right (key-placed (standing d) q x opened place Equal equal)))
        (replaced d.inner d.nested d.left d.right d.others old-first)

module _ (place : Words → Ordering) (new : Words) (word : ℤ) (p q : Pool) (x : Node) (n link : ℕ) (numbered : 0 < n) (opened : Opens p q n x) where
  pub inserted-less : (q1 q2 : Pool) (l m : ℕ) → place x.key ≡ Less → Inserts place new word q q1 x.left link l
      → Puts balance q1 q2 x l x.right m → Inserts place new word p q2 n link m
  inserted-less q1 q2 l m less first put leaf nested hs h = let z : n ≡ 0 = (held-carries p n leaf _ h).linked in absurd (omega arith)
  inserted-less q1 q2 l m less first put (fork key held_word tall inner left right) nested hs h =
      left-inserted record { key = key; word = held_word; tall = tall; inner = inner; left = left; right = right; nested = nested; others = hs; holds = h } q x opened place new word q1 l first q2 m less put

  pub inserted-greater : (q1 q2 : Pool) (r m : ℕ) → place x.key ≡ Greater → Inserts place new word q q1 x.right link r
      → Puts balance q1 q2 x x.left r m → Inserts place new word p q2 n link m
  inserted-greater q1 q2 r m greater first put leaf nested hs h = let z : n ≡ 0 = (held-carries p n leaf _ h).linked in absurd (omega arith)
  inserted-greater q1 q2 r m greater first put (fork key held_word tall inner left right) nested hs h =
      right-inserted record { key = key; word = held_word; tall = tall; inner = inner; left = left; right = right; nested = nested; others = hs; holds = h } q x opened place new word q1 r first q2 m greater put

  pub inserted-equal : (q1 : Pool) (m : ℕ) → place x.key ≡ Equal → Replaces word q q1 x link m → Inserts place new word p q1 n link m
  inserted-equal q1 m equal replaced leaf nested hs h = let z : n ≡ 0 = (held-carries p n leaf _ h).linked in absurd (omega arith)
  inserted-equal q1 m equal replaced (fork key held_word tall inner left right) nested hs h =
      value-replaced record { key = key; word = held_word; tall = tall; inner = inner; left = left; right = right; nested = nested; others = hs; holds = h } q x opened place new word q1 m equal replaced

-- ---- what the calls on the way need

module _ {p : Pool} {n link : ℕ} (d : LowFork p n link) (q : Pool) (x : Node) (opened : Opens p q n x) where
  module _ (fewer : used_of q ≤ used_of p) (size : length (memory_of q) ≡ length (memory_of p)) where
    pub left-insertable : Insertable q x.left link
    left-insertable =
        record {
          t = d.trees.left;
          nested = d.trees.nested;
          others = held x.nested d.trees.inner ∷ held x.right d.trees.right ∷ d.trees.others;
          holds = into-left d.trees q x opened;
          few = omega (arith, d.few, left-lower (standing d.trees) d.balanced);
          balanced = d.balanced.3;
          low = omega (arith, d.low, left-lower (standing d.trees) d.balanced);
          room = omega (arith, d.room, left-lower (standing d.trees) d.balanced);
        }

    pub right-insertable : Insertable q x.right link
    right-insertable =
        record {
          t = d.trees.right;
          nested = d.trees.nested;
          others = held x.left d.trees.left ∷ held x.nested d.trees.inner ∷ d.trees.others;
          holds = into-right d.trees q x opened;
          few = omega (arith, d.few, right-lower (standing d.trees) d.balanced);
          balanced = d.balanced.4;
          low = omega (arith, d.low, right-lower (standing d.trees) d.balanced);
          room = omega (arith, d.room, right-lower (standing d.trees) d.balanced);
        }

  -- a key that goes behind all others costs one node more than its side did: one rotation suffices, and gives a node back
  pub appended-used : (place : Words → Ordering) (new : Words) (word : ℤ) (q1 q2 : Pool) (r : ℕ) → Inserts place new word q q1 x.right link r
      → Behind place d.trees.right → (node_at (memory_of q1) r).count ≡ 1
      → ((nested left right : Tree) (hs : List Held) → Holds q1 (sides x x.left r nested left right hs) → height left ≤ height right + 1 → height right ≤ height left + 1 → used_of q2 ≡ used_of q1 + 1)
      → ((nested left right : Tree) (hs : List Held) → Holds q1 (sides x x.left r nested left right hs) → height left + 1 < height right → LeansRight right → (node_at (memory_of q1) r).count ≡ 1 → used_of q2 ≡ used_of q1 + 1)
      → used_of q2 ≡ used_of q1 + 1
  appended-used place new word q1 q2 r first behind fresh level single =
      let f : Forked p n link = d.trees in
      let after : Tree = insert place new word f.nested f.right in
      let holds : Holds q1 (sides x x.left r f.inner f.left after f.others) = right-sides f q x opened place new word q1 r first in
      let g = insert-grown place new word f.nested f.right d.balanced.4 in
      let low : height f.left ≤ height f.right + 1 = d.balanced.1 in
      elim (cases_lt (height f.left + 1) (height after)) [
        | inl higher ↦
            single f.inner f.left after f.others holds higher
            (appended-leans place new word f.nested f.key f.word f.tall f.inner f.left f.right d.balanced behind higher) fresh
        | inr not ↦ level f.inner f.left after f.others holds (omega (arith, low, g.least)) not
      ]

  module _ (place : Words → Ordering) (new : Words) (word : ℤ) (q1 : Pool) where
    pub left-balanceable : (l : ℕ) → Inserts place new word q q1 x.left link l → Balanceable q1 (over x l x.right)
    left-balanceable l first =
        let g = insert-grown place new word d.trees.nested d.trees.left d.balanced.3 in
        record {
          nested = d.trees.inner;
          l = insert place new word d.trees.nested d.trees.left;
          r = d.trees.right;
          others = d.trees.others;
          holds = left-sides d.trees q x opened place new word q1 l first;
          few = omega (arith, d.few);
          balanced_left = g.balanced;
          balanced_right = d.balanced.4;
          low_left = omega (arith, d.low, left-lower (standing d.trees) d.balanced, g.most);
          low_right = omega (arith, d.low, right-lower (standing d.trees) d.balanced);
        }

    pub right-balanceable : (r : ℕ) → Inserts place new word q q1 x.right link r → Balanceable q1 (over x x.left r)
    right-balanceable r first =
        let g = insert-grown place new word d.trees.nested d.trees.right d.balanced.4 in
        record {
          nested = d.trees.inner;
          l = d.trees.left;
          r = insert place new word d.trees.nested d.trees.right;
          others = d.trees.others;
          holds = right-sides d.trees q x opened place new word q1 r first;
          few = omega (arith, d.few);
          balanced_left = d.balanced.3;
          balanced_right = g.balanced;
          low_left = omega (arith, d.low, left-lower (standing d.trees) d.balanced);
          low_right = omega (arith, d.low, right-lower (standing d.trees) d.balanced, g.most);
        }
