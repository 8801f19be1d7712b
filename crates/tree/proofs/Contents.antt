-- What a tree holds after it is rebuilt, after an insert and after a remove.
use Rattle.std.proofs.Common.{◌≡◌, ◌+◌, ltb, List, [], ◌∷◌, ◌++◌, ℤ, Ordering, sym, refl, ap, ◌∙◌, append_assoc, append-nil}
use Rattle.std.proofs.lemmas.Bool.{cond_both}
use Rattle.pool.specs.Tree.{Tree, fork, leaf}
use Rattle.pool.specs.declared.node.Words.{Words}
use Rattle.tree.proofs.Ascends.{after_lower, after-lower-equal, ascending-cut, before-higher, before-higher-equal, equal-keys, put_in-before, put_in-behind, without-append, without-higher, without-lower}
use Rattle.tree.proofs.Steps.{by-order, insert-equal, insert-greater, insert-less, put_in-equal, put_in-greater, remove-equal, remove-greater, remove-less, without-equal, without-greater}
use Rattle.tree.specs.Insert.{compared, insert}
use Rattle.tree.specs.Kind.{Kind}
use Rattle.tree.specs.Listed.{put_in, without}
use Rattle.tree.specs.Rebuild.{balance, rotate_double, rotate_left, rotate_right}
use Rattle.tree.specs.Remove.{first, join, remove, without_first}
use Rattle.tree.specs.Shape.{Ascending, Item, height, item, items}

module _ {K : Type 0} (key : Words → K) where
  -- the item of a root, its key decoded
  abbrev pub decoded : Item Words → Item K
  decoded root = item (key root.key) root.word root.nested

  pub rotate_double-items : (lower : Words) (held : ℤ) (inner : Tree) (upper : Words) (word : ℤ) (nested left middle right : Tree)
      → items key (rotate_double lower held inner upper word nested left middle right)
      ≡ items key left ++ item (key lower) held inner ∷ (items key middle ++ item (key upper) word nested ∷ items key right)
  unfolding rotate_double
  rotate_double-items lower held inner upper word nested left leaf right = refl
  rotate_double-items lower held inner upper word nested left (fork middle value tall within before behind) right = simp append_assoc

  pub rotate_right-items : (words : Words) (word : ℤ) (nested left right : Tree)
      → items key (rotate_right words word nested left right) ≡ items key left ++ item (key words) word nested ∷ items key right
  unfolding rotate_right
  rotate_right-items words word nested leaf right = refl
  rotate_right-items words word nested (fork lower held tall inner left middle) right =
      cond_both (ltb (height left) (height middle)) _ _
      (λ t. items key t ≡ (items key left ++ item (key lower) held inner ∷ items key middle) ++ item (key words) word nested ∷ items key right)
      (λ _. rotate_double-items lower held inner words word nested left middle right ∙ simp append_assoc) (λ _. simp append_assoc)

  pub rotate_left-items : (words : Words) (word : ℤ) (nested left right : Tree)
      → items key (rotate_left words word nested left right) ≡ items key left ++ item (key words) word nested ∷ items key right
  unfolding rotate_left
  rotate_left-items words word nested left leaf = refl
  rotate_left-items words word nested left (fork upper held tall inner middle right) =
      cond_both (ltb (height right) (height middle)) _ _
      (λ t. items key t ≡ items key left ++ item (key words) word nested ∷ (items key middle ++ item (key upper) held inner ∷ items key right))
      (λ _. rotate_double-items words word nested upper held inner left middle right) (λ _. simp append_assoc)

  pub balance-items : (words : Words) (word : ℤ) (nested left right : Tree)
      → items key (balance words word nested left right) ≡ items key left ++ item (key words) word nested ∷ items key right
  unfolding balance
  balance-items words word nested left right =
      let P : Tree → Type 0 = λ t. items key t ≡ items key left ++ item (key words) word nested ∷ items key right in
      cond_both (ltb (height right + 1) (height left)) _ _ P (λ _. rotate_right-items words word nested left right)
      (λ _. cond_both (ltb (height left + 1) (height right)) _ _ P (λ _. rotate_left-items words word nested left right) (λ _. refl))

  pub first-items : (words : Words) (word : ℤ) (nested left right : Tree)
      → decoded (first words word nested left) ∷ items key (without_first words word nested left right)
      ≡ items key left ++ item (key words) word nested ∷ items key right
  unfolding first without_first
  first-items words word nested leaf right = refl
  first-items words word nested (fork lower held tall inner left middle) right =
      rw (balance-items words word nested (without_first lower held inner left middle) right)
      (ap (λ (xs : List (Item K)). xs ++ item (key words) word nested ∷ items key right) (first-items lower held inner left middle))

  pub join-items : (left right : Tree) → items key (join left right) ≡ items key left ++ items key right
  unfolding join
  join-items leaf right = refl
  join-items (fork lower held tall inner left middle) leaf = sym (append-nil (items key (fork lower held tall inner left middle)))
  join-items (fork lower held tall inner left middle) (fork upper word high nested before behind) =
      let root : Item Words = first upper word nested before in
      let front : Tree = fork lower held tall inner left middle in
      balance-items root.key root.word root.nested front (without_first upper word nested before behind)
      ∙ ap (λ (xs : List (Item K)). items key front ++ xs) (first-items upper word nested before behind)

module _ {K : Type 0} (𝓚 : Kind K) (k : K) where
  pub insert-items : (word : ℤ) (nested t : Tree) → Ascending 𝓚.order (items 𝓚.key t)
      → items 𝓚.key (insert (compared 𝓚.key 𝓚.order k) (𝓚.words k) word nested t) ≡ put_in 𝓚.order k word nested (items 𝓚.key t)
  unfolding insert put_in
  insert-items word nested leaf a = ap (λ (j : K). item j word nested ∷ []) (𝓚.back k)
  insert-items word nested (fork words held tall inner left right) a =
      let place : Words → Ordering = compared 𝓚.key 𝓚.order k in
      let root : Item K = item (𝓚.key words) held inner in
      let c = ascending-cut 𝓚.order (items 𝓚.key left) root (items 𝓚.key right) a in
      by-order (𝓚.order k (𝓚.key words))
      (λ e. ap (items 𝓚.key) (insert-less place (𝓚.words k) word nested words held tall inner left right e)
      ∙ balance-items 𝓚.key words held inner (insert place (𝓚.words k) word nested left) right
      ∙ ap (λ (xs : List (Item K)). xs ++ root ∷ items 𝓚.key right) (insert-items word nested left c.front)
      ∙ sym (put_in-before 𝓚.order k word nested (items 𝓚.key left) root (items 𝓚.key right) e))
      (λ e. ap (items 𝓚.key) (insert-equal place (𝓚.words k) word nested words held tall inner left right e)
      ∙ ap (λ (j : K). items 𝓚.key left ++ item j word nested ∷ items 𝓚.key right) (sym (equal-keys 𝓚 k (𝓚.key words) e))
      ∙ sym (put_in-behind 𝓚.order k word nested (items 𝓚.key left) (root ∷ items 𝓚.key right) (after-lower-equal 𝓚 k root (items 𝓚.key left) e c.lower)
      ∙ ap (λ (xs : List (Item K)). items 𝓚.key left ++ xs) (put_in-equal 𝓚.order k word nested root (items 𝓚.key right) e)))
      (λ e. ap (items 𝓚.key) (insert-greater place (𝓚.words k) word nested words held tall inner left right e)
      ∙ balance-items 𝓚.key words held inner left (insert place (𝓚.words k) word nested right)
      ∙ ap (λ (xs : List (Item K)). items 𝓚.key left ++ root ∷ xs) (insert-items word nested right c.back)
      ∙ sym (put_in-behind 𝓚.order k word nested (items 𝓚.key left) (root ∷ items 𝓚.key right) (after_lower 𝓚 k root (items 𝓚.key left) e c.lower)
      ∙ ap (λ (xs : List (Item K)). items 𝓚.key left ++ xs) (put_in-greater 𝓚.order k word nested root (items 𝓚.key right) e)))

  pub remove-items : (t : Tree) → Ascending 𝓚.order (items 𝓚.key t)
      → items 𝓚.key (remove (compared 𝓚.key 𝓚.order k) t) ≡ without 𝓚.order k (items 𝓚.key t)
  unfolding remove without
  remove-items leaf a = refl
  remove-items (fork words word tall nested left right) a =
      let place : Words → Ordering = compared 𝓚.key 𝓚.order k in
      let root : Item K = item (𝓚.key words) word nested in
      let front : List (Item K) = items 𝓚.key left in
      let back : List (Item K) = items 𝓚.key right in
      let c = ascending-cut 𝓚.order front root back a in
      let parts : without 𝓚.order k (front ++ root ∷ back) ≡ without 𝓚.order k front ++ without 𝓚.order k (root ∷ back) =
      without-append 𝓚.order k front (root ∷ back) in
      by-order (𝓚.order k (𝓚.key words))
      (λ e. ap (items 𝓚.key) (remove-less place words word tall nested left right e)
      ∙ balance-items 𝓚.key words word nested (remove place left) right
      ∙ ap (λ (xs : List (Item K)). xs ++ root ∷ back) (remove-items left c.front)
      ∙ sym (parts ∙ ap (λ (xs : List (Item K)). without 𝓚.order k front ++ xs) (without-higher 𝓚.order k (root ∷ back) (e, before-higher 𝓚 k root back e c.higher))))
      (λ e. ap (items 𝓚.key) (remove-equal place words word tall nested left right e) ∙ join-items 𝓚.key left right
      ∙ sym (parts
      ∙ ap (λ (xs : List (Item K)). xs ++ without 𝓚.order k (root ∷ back)) (without-lower 𝓚.order k front (after-lower-equal 𝓚 k root front e c.lower))
      ∙ ap (λ (xs : List (Item K)). front ++ xs) (without-equal 𝓚.order k root back e ∙ without-higher 𝓚.order k back (before-higher-equal 𝓚 k root back e c.higher))))
      (λ e. ap (items 𝓚.key) (remove-greater place words word tall nested left right e)
      ∙ balance-items 𝓚.key words word nested left (remove place right)
      ∙ ap (λ (xs : List (Item K)). front ++ root ∷ xs) (remove-items right c.back)
      ∙ sym (parts
      ∙ ap (λ (xs : List (Item K)). xs ++ without 𝓚.order k (root ∷ back)) (without-lower 𝓚.order k front (after_lower 𝓚 k root front e c.lower))
      ∙ ap (λ (xs : List (Item K)). front ++ xs) (without-greater 𝓚.order k root back e)))
