-- Each step of rebuilding, inserting and removing as an equation, by the test that the code makes.
use Rattle.std.proofs.Common.{◌≡◌, ℕ, ◌+◌, ◌<◌, ◌≤◌, List, ◌∷◌, ℤ, Ordering, Less, Equal, Greater, sym, refl, ap, ◌∙◌}
use Rattle.std.proofs.lemmas.Bool.{cond-false, cond-true, le-ltb, lt-ltb}
use Rattle.pool.specs.Tree.{Tree, fork, leaf}
use Rattle.pool.specs.declared.node.Words.{Words}
use Rattle.tree.specs.Insert.{insert}
use Rattle.tree.specs.Listed.{put_in, without}
use Rattle.tree.specs.Rebuild.{balance, node, rotate_double, rotate_left, rotate_right}
use Rattle.tree.specs.Remove.{first, join, remove, without_first}
use Rattle.tree.specs.Shape.{Item, height, item}

-- the three ways to compare, each with its equation
pub by-order : {G : Type 0} (o : Ordering) → (o ≡ Less → G) → (o ≡ Equal → G) → (o ≡ Greater → G) → G
by-order Less less equal greater = less refl
by-order Equal less equal greater = equal refl
by-order Greater less equal greater = greater refl

module _ (words : Words) (word : ℤ) (nested : Tree) where
  pub balance-level : (left right : Tree) → height left ≤ height right + 1 → height right ≤ height left + 1
      → balance words word nested left right ≡ node words word nested left right
  unfolding balance
  balance-level left right l r =
      cond-false _ _ _ (le-ltb (height right + 1) (height left) l) ∙ cond-false _ _ _ (le-ltb (height left + 1) (height right) r)

  pub balance-left : (left right : Tree) → height right + 1 < height left → balance words word nested left right ≡ rotate_right words word nested left right
  unfolding balance
  balance-left left right h = cond-true _ _ _ (lt-ltb (height right + 1) (height left) h)

  pub balance-right : (left right : Tree) → height left ≤ height right + 1 → height left + 1 < height right
      → balance words word nested left right ≡ rotate_left words word nested left right
  unfolding balance
  balance-right left right l h =
      cond-false _ _ _ (le-ltb (height right + 1) (height left) l) ∙ cond-true _ _ _ (lt-ltb (height left + 1) (height right) h)

  -- a side of no nodes stays where it is
  pub rotate_right-leaf : (right : Tree) → rotate_right words word nested leaf right ≡ node words word nested leaf right
  unfolding rotate_right
  rotate_right-leaf right = refl

  pub rotate_left-leaf : (left : Tree) → rotate_left words word nested left leaf ≡ node words word nested left leaf
  unfolding rotate_left
  rotate_left-leaf left = refl

-- one rotation where the outer side is at least as high as the middle, else two
module _ (words : Words) (word : ℤ) (nested : Tree) where
  pub rotate_right-single : (lower : Words) (held : ℤ) (tall : ℕ) (inner left middle right : Tree) → height middle ≤ height left
      → rotate_right words word nested (fork lower held tall inner left middle) right ≡ node lower held inner left (node words word nested middle right)
  unfolding rotate_right
  rotate_right-single lower held tall inner left middle right h = cond-false _ _ _ (le-ltb (height left) (height middle) h)

  pub rotate_right-double : (lower : Words) (held : ℤ) (tall : ℕ) (inner left middle right : Tree) → height left < height middle
      → rotate_right words word nested (fork lower held tall inner left middle) right
      ≡ rotate_double lower held inner words word nested left middle right
  unfolding rotate_right
  rotate_right-double lower held tall inner left middle right h = cond-true _ _ _ (lt-ltb (height left) (height middle) h)

  pub rotate_left-single : (upper : Words) (held : ℤ) (tall : ℕ) (inner left middle right : Tree) → height middle ≤ height right
      → rotate_left words word nested left (fork upper held tall inner middle right) ≡ node upper held inner (node words word nested left middle) right
  unfolding rotate_left
  rotate_left-single upper held tall inner left middle right h = cond-false _ _ _ (le-ltb (height right) (height middle) h)

  pub rotate_left-double : (upper : Words) (held : ℤ) (tall : ℕ) (inner left middle right : Tree) → height right < height middle
      → rotate_left words word nested left (fork upper held tall inner middle right)
      ≡ rotate_double words word nested upper held inner left middle right
  unfolding rotate_left
  rotate_left-double upper held tall inner left middle right h = cond-true _ _ _ (lt-ltb (height right) (height middle) h)

module _ (lower : Words) (held : ℤ) (inner : Tree) (upper : Words) (word : ℤ) (nested left right : Tree) where
  pub rotate_double-leaf : rotate_double lower held inner upper word nested left leaf right ≡ node lower held inner left (node upper word nested leaf right)
  unfolding rotate_double
  rotate_double-leaf = refl

  pub rotate_double-fork : (middle : Words) (value : ℤ) (tall : ℕ) (within before behind : Tree)
      → rotate_double lower held inner upper word nested left (fork middle value tall within before behind) right
      ≡ node middle value within (node lower held inner left before) (node upper word nested behind right)
  unfolding rotate_double
  rotate_double-fork middle value tall within before behind = refl

module _ (place : Words → Ordering) (new : Words) (word : ℤ) (nested : Tree) where
  pub insert-leaf : insert place new word nested leaf ≡ node new word nested leaf leaf
  unfolding insert
  insert-leaf = refl

  pub insert-less : (words : Words) (held : ℤ) (tall : ℕ) (inner left right : Tree) → place words ≡ Less
      → insert place new word nested (fork words held tall inner left right) ≡ balance words held inner (insert place new word nested left) right
  unfolding insert
  insert-less words held tall inner left right e = rw (e, insert)

  pub insert-equal : (words : Words) (held : ℤ) (tall : ℕ) (inner left right : Tree) → place words ≡ Equal
      → insert place new word nested (fork words held tall inner left right) ≡ fork words word tall nested left right
  unfolding insert
  insert-equal words held tall inner left right e = rw (e, insert)

  pub insert-greater : (words : Words) (held : ℤ) (tall : ℕ) (inner left right : Tree) → place words ≡ Greater
      → insert place new word nested (fork words held tall inner left right) ≡ balance words held inner left (insert place new word nested right)
  unfolding insert
  insert-greater words held tall inner left right e = rw (e, insert)

module _ (words : Words) (word : ℤ) (nested : Tree) where
  pub first_leaf : first words word nested leaf ≡ item words word nested
  unfolding first
  first_leaf = refl

  pub first-fork : (lower : Words) (held : ℤ) (tall : ℕ) (inner left right : Tree)
      → first words word nested (fork lower held tall inner left right) ≡ first lower held inner left
  unfolding first
  first-fork lower held tall inner left right = refl

  pub without_first-leaf : (right : Tree) → without_first words word nested leaf right ≡ right
  unfolding without_first
  without_first-leaf right = refl

  pub without_first-fork : (lower : Words) (held : ℤ) (tall : ℕ) (inner left middle right : Tree)
      → without_first words word nested (fork lower held tall inner left middle) right
      ≡ balance words word nested (without_first lower held inner left middle) right
  unfolding without_first
  without_first-fork lower held tall inner left middle right = refl

pub join-left-leaf : (right : Tree) → join leaf right ≡ right
unfolding join
join-left-leaf right = refl

pub join-right-leaf : (left : Tree) → join left leaf ≡ left
unfolding join
join-right-leaf leaf = refl
join-right-leaf (fork words word tall nested left right) = refl

pub join-forks : (lower : Words) (held : ℤ) (tall : ℕ) (inner left middle : Tree) (upper : Words) (word : ℤ) (high : ℕ) (nested before behind : Tree)
    → (root : Item Words) → root ≡ first upper word nested before
    → join (fork lower held tall inner left middle) (fork upper word high nested before behind)
    ≡ balance root.key root.word root.nested (fork lower held tall inner left middle) (without_first upper word nested before behind)
unfolding join
join-forks lower held tall inner left middle upper word high nested before behind root e =
    ap (λ (r : Item Words). balance r.key r.word r.nested (fork lower held tall inner left middle) (without_first upper word nested before behind))
    (sym e)

module _ (place : Words → Ordering) where
  pub remove-leaf : remove place leaf ≡ leaf
  unfolding remove
  remove-leaf = refl

  pub remove-less : (words : Words) (word : ℤ) (tall : ℕ) (nested left right : Tree) → place words ≡ Less
      → remove place (fork words word tall nested left right) ≡ balance words word nested (remove place left) right
  unfolding remove
  remove-less words word tall nested left right e = rw (e, remove)

  pub remove-equal : (words : Words) (word : ℤ) (tall : ℕ) (nested left right : Tree) → place words ≡ Equal
      → remove place (fork words word tall nested left right) ≡ join left right
  unfolding remove
  remove-equal words word tall nested left right e = rw (e, remove)

  pub remove-greater : (words : Words) (word : ℤ) (tall : ℕ) (nested left right : Tree) → place words ≡ Greater
      → remove place (fork words word tall nested left right) ≡ balance words word nested left (remove place right)
  unfolding remove
  remove-greater words word tall nested left right e = rw (e, remove)

module _ {K : Type 0} (order : K → K → Ordering) (k : K) (word : ℤ) (nested : Tree) where
  pub put_in-less : (x : Item K) (xs : List (Item K)) → order k x.key ≡ Less → put_in order k word nested (x ∷ xs) ≡ item k word nested ∷ x ∷ xs
  unfolding put_in
  put_in-less x xs e = rw (e, put_in)

  pub put_in-equal : (x : Item K) (xs : List (Item K)) → order k x.key ≡ Equal → put_in order k word nested (x ∷ xs) ≡ item k word nested ∷ xs
  unfolding put_in
  put_in-equal x xs e = rw (e, put_in)

  pub put_in-greater : (x : Item K) (xs : List (Item K)) → order k x.key ≡ Greater
      → put_in order k word nested (x ∷ xs) ≡ x ∷ put_in order k word nested xs
  unfolding put_in
  put_in-greater x xs e = rw (e, put_in)

module _ {K : Type 0} (order : K → K → Ordering) (k : K) where
  pub without-less : (x : Item K) (xs : List (Item K)) → order k x.key ≡ Less → without order k (x ∷ xs) ≡ x ∷ without order k xs
  unfolding without
  without-less x xs e = rw (e, without)

  pub without-equal : (x : Item K) (xs : List (Item K)) → order k x.key ≡ Equal → without order k (x ∷ xs) ≡ without order k xs
  unfolding without
  without-equal x xs e = rw (e, without)

  pub without-greater : (x : Item K) (xs : List (Item K)) → order k x.key ≡ Greater → without order k (x ∷ xs) ≡ x ∷ without order k xs
  unfolding without
  without-greater x xs e = rw (e, without)
