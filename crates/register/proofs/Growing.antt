-- What holds of all trees nested in a tree, and of a sheet with its cards or a line with its sheets, still holds after the tree is changed.
use Rattle.std.proofs.Common.{◌∷◌, ℤ, pos, Some, None, Option, Ordering, Less, Equal, Greater, sym, subst}
use Rattle.std.proofs.ByRecursion.{All-append}
use Rattle.std.specs.List.{AllByRecursion}
use Rattle.kinds.specs.declared.instant.Instant.{Instant}
use Rattle.kinds.specs.declared.name.Name.{Name}
use Rattle.pool.specs.Tree.{Tree, fork, leaf}
use Rattle.pool.specs.declared.node.Words.{Words}
use Rattle.tree.proofs.Ascends.{all_back, all-front}
use Rattle.tree.proofs.Contents.{balance-items, join-items}
use Rattle.tree.proofs.Steps.{by-order, insert-equal, insert-greater, insert-less, remove-equal, remove-greater, remove-less}
use Rattle.tree.proofs.TreeLaws.{order-laws}
use Rattle.tree.specs.Insert.{compared, insert}
use Rattle.tree.specs.Kind.{Kind}
use Rattle.tree.specs.Lookup.{at_most, by_order, find, last, or_else}
use Rattle.tree.specs.Rebuild.{balance}
use Rattle.tree.specs.Remove.{join, remove}
use Rattle.tree.specs.Shape.{Item, item, items}
use Rattle.register.proofs.Timed.{instants, names_of}
use Rattle.register.specs.Contents.{Names, card_tree, earlier, instant_at, nested_in}
use Rattle.register.specs.Shapes.{ByName, ByTime, LineWith, Nested, SheetWith}
use Rattle.register.specs.Trees.{changed_tree, entered_tree, instant_words, with_card_tree}
use Rattle.register.specs.declared.entries.Change.{Change}
use Rattle.register.specs.declared.entries.Change.TheVariants.{Record, Correct, Withdraw}

module _ (R : Tree → Type 0) where
  -- the trees nested in a tree are those of its items
  pub nested-items : {K : Type 0} (key : Words → K) (t : Tree) → Nested R t → AllByRecursion (λ x. R x.nested) (items key t)
  nested-items key leaf h = tt
  nested-items key (fork words word tall nested left right) h =
      All-append (λ x. R x.nested) (items key left) (item (key words) word nested ∷ items key right) (nested-items key left h.1)
      (h.0, nested-items key right h.2)

  pub items-nested : {K : Type 0} (key : Words → K) (t : Tree) → AllByRecursion (λ x. R x.nested) (items key t) → Nested R t
  items-nested key leaf h = tt
  items-nested key (fork words word tall nested left right) h =
      let xs = items key left in
      let ys = item (key words) word nested ∷ items key right in
      let back = all_back (λ x. R x.nested) xs ys h in
      (back.0, items-nested key left (all-front (λ x. R x.nested) xs ys h), items-nested key right back.1)

  pub nested-balance : (words : Words) (word : ℤ) (nested left right : Tree) → Nested R left → R nested → Nested R right
      → Nested R (balance words word nested left right)
  nested-balance words word nested left right l r h =
      items-nested (λ w. w) (balance words word nested left right)
      (rw (balance-items (λ w. w) words word nested left right) (nested-items (λ w. w) (fork words word 0 nested left right) (r, l, h)))

  pub nested-join : (left right : Tree) → Nested R left → Nested R right → Nested R (join left right)
  nested-join left right l r =
      items-nested (λ w. w) (join left right)
      (rw (join-items (λ w. w) left right) (All-append (λ x. R x.nested) _ _ (nested-items (λ w. w) left l) (nested-items (λ w. w) right r)))

  module _ (place : Words → Ordering) where
    pub nested-insert : (new : Words) (word : ℤ) (nested t : Tree) → Nested R t → R nested → Nested R (insert place new word nested t)
    unfolding insert
    nested-insert new word nested leaf h r = (r, tt, tt)
    nested-insert new word nested (fork words held tall inner left right) h r =
        by-order (place words)
        (λ e. subst (Nested R) (sym (insert-less place new word nested words held tall inner left right e))
        (nested-balance words held inner (insert place new word nested left) right (nested-insert new word nested left h.1 r) h.0 h.2))
        (λ e. subst (Nested R) (sym (insert-equal place new word nested words held tall inner left right e)) (r, h.1, h.2))
        (λ e. subst (Nested R) (sym (insert-greater place new word nested words held tall inner left right e))
        (nested-balance words held inner left (insert place new word nested right) h.1 h.0 (nested-insert new word nested right h.2 r)))

    pub nested-remove : (t : Tree) → Nested R t → Nested R (remove place t)
    unfolding remove
    nested-remove leaf h = tt
    nested-remove (fork words word tall nested left right) h =
        by-order (place words)
        (λ e. subst (Nested R) (sym (remove-less place words word tall nested left right e))
        (nested-balance words word nested (remove place left) right (nested-remove left h.1) h.0 h.2))
        (λ e. subst (Nested R) (sym (remove-equal place words word tall nested left right e)) (nested-join left right h.1 h.2))
        (λ e. subst (Nested R) (sym (remove-greater place words word tall nested left right e))
        (nested-balance words word nested left (remove place right) h.1 h.0 (nested-remove right h.2)))

  module _ {K : Type 0} (key : Words → K) (order : K → K → Ordering) (none : R leaf) where
    pub nested-find : (k : K) (t : Tree) → Nested R t → R (nested_in (find key order k t))
    unfolding find
    nested-find k leaf h = none
    nested-find k (fork words word tall nested left right) h = one (order k (key words)) _ _ _ (nested-find k left h.1) h.0 (nested-find k right h.2)
      where
        one : (o : Ordering) (before behind : Option (Item K)) (x : Item K) → R (nested_in before) → R x.nested → R (nested_in behind)
            → R (nested_in (by_order o before (Some x) behind))
        one Less before behind x a b c = a
        one Equal before behind x a b c = b
        one Greater before behind x a b c = c

    pub nested-last : (t : Tree) → Nested R t → R (nested_in (last key order t))
    unfolding last
    nested-last leaf h = none
    nested-last (fork words word tall nested left right) h = one (last key order right) _ (nested-last right h.2) h.0
      where
        one : (o : Option (Item K)) (x : Item K) → R (nested_in o) → R x.nested → R (nested_in (or_else o (Some x)))
        one None x a b = b
        one (Some y) x a b = a

    pub nested-at-most : (k : K) (t : Tree) → Nested R t → R (nested_in (at_most key order k t))
    unfolding at_most
    nested-at-most k leaf h = none
    nested-at-most k (fork words word tall nested left right) h =
        one (order k (key words)) (at_most key order k left) (at_most key order k right) _ (nested-at-most k left h.1) h.0 (nested-at-most k right h.2)
      where
        one : (o : Ordering) (before behind : Option (Item K)) (x : Item K) → R (nested_in before) → R x.nested → R (nested_in behind)
            → R (nested_in (by_order o before (Some x) (or_else behind (Some x))))
        one Less before behind x a b c = a
        one Equal before behind x a b c = b
        one Greater before None x a b c = b
        one Greater before (Some y) x a b c = c

-- a sheet with its cards, after an entry
module _ {K : Type 0} (𝓝 : Names K) (name : K) (Q R : Tree → Type 0)
    (put : (word : ℤ) (nested t : Tree) → Q t → Q (insert (compared 𝓝.key 𝓝.order name) (𝓝.words name) word nested t))
    (drop : (t : Tree) → Q t → Q (remove (compared 𝓝.key 𝓝.order name) t)) where
  pub sheet-with-card : (card t : Tree) → R card → SheetWith Q R t → SheetWith Q R (with_card_tree 𝓝 name card t)
  unfolding with_card_tree
  sheet-with-card leaf t r h =
      record { sheet = drop t h.sheet; cards = nested-remove R (compared 𝓝.key 𝓝.order name) t h.cards }
  sheet-with-card (fork words word tall nested left right) t r h =
      record {
        sheet = put (pos 0) (fork words word tall nested left right) t h.sheet;
        cards = nested-insert R (compared 𝓝.key 𝓝.order name) (𝓝.words name) (pos 0) (fork words word tall nested left right) t h.cards r;
      }

  pub sheet-entered : R leaf → (measured : Instant) (change : Change) → ((t : Tree) → R t → R (changed_tree change measured t))
      → (t : Tree) → SheetWith Q R t → SheetWith Q R (entered_tree 𝓝 name measured change t)
  sheet-entered none measured change entry t h =
      sheet-with-card (changed_tree change measured (card_tree 𝓝 name t)) t
      (entry (card_tree 𝓝 name t) (nested-find R 𝓝.key 𝓝.order none name t h.cards)) h

pub ordered-changed : (change : Change) (measured : Instant) (t : Tree) → ByTime t → ByTime (changed_tree change measured t)
unfolding changed_tree
ordered-changed (Record reading) measured t a = (order-laws instants).inserted measured reading leaf t a
ordered-changed (Correct reading) measured t a = (order-laws instants).inserted measured reading leaf t a
ordered-changed Withdraw measured t a = (order-laws instants).removed measured t a

pub ordered-entered : {K : Type 0} (𝓚 : Kind K) (named : Name → K) (called : K → Name) (name : K) (measured : Instant) (change : Change) (t : Tree)
    → SheetWith (ByName (names_of 𝓚 named called)) ByTime t → SheetWith (ByName (names_of 𝓚 named called)) ByTime (entered_tree (names_of 𝓚 named called) name measured change t)
ordered-entered 𝓚 named called name measured change =
    sheet-entered (names_of 𝓚 named called) name (ByName (names_of 𝓚 named called)) ByTime ((order-laws 𝓚).inserted name) ((order-laws 𝓚).removed name) tt measured change
    (ordered-changed change measured)

-- a line with its sheets, after a commit
module _ (P Q R : Tree → Type 0) (at : Instant) where
  pub line-committed : ((nested t : Tree) → P t → P (insert (compared instant_at earlier at) (instant_words at) (pos 0) nested t))
      → (sheet t : Tree) → SheetWith Q R sheet → LineWith P Q R t
      → LineWith P Q R (insert (compared instant_at earlier at) (instant_words at) (pos 0) sheet t)
  line-committed put sheet t s h =
      record {
        line = put sheet t h.line;
        sheets = nested-insert (SheetWith Q R) (compared instant_at earlier at) (instant_words at) (pos 0) sheet t h.sheets s;
      }

pub ordered-committed : {K : Type 0} (𝓝 : Names K) (at : Instant) (sheet t : Tree) → SheetWith (ByName 𝓝) ByTime sheet → LineWith ByTime (ByName 𝓝) ByTime t
    → LineWith ByTime (ByName 𝓝) ByTime (insert (compared instant_at earlier at) (instant_words at) (pos 0) sheet t)
ordered-committed 𝓝 at = line-committed ByTime (ByName 𝓝) ByTime at ((order-laws instants).inserted at (pos 0))
