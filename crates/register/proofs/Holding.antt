-- What cards, sheets and lines hold, as lists: what an entry or a commit puts there, what a look finds, and which stage is last.
use Rattle.std.proofs.Common.{◌≡◌, ℕ, ◌<◌, true, false, List, [], ◌∷◌, ◌++◌, map, ℤ, pos, is_some, Some, None, Option, Ordering, Less, Equal, Greater, unwrap_or, sym, refl, ap, ◌∙◌, arith}
use Rattle.std.proofs.ByRecursion.{All-weaker}
use Rattle.std.proofs.lemmas.List.{map_push}
use Rattle.std.proofs.lemmas.Bool.Decides.{nat_tests}
use Rattle.std.specs.Option.{option_map}
use Rattle.std.specs.List.{AllByRecursion}
use Rattle.std.specs.Ordering.{nat_cmp}
use Rattle.kinds.specs.declared.instant.Instant.{Instant}
use Rattle.kinds.specs.declared.name.Name.{Name}
use Rattle.pool.specs.Tree.{Tree, fork, leaf}
use Rattle.pool.specs.declared.node.Words.{Words}
use Rattle.tree.proofs.Looking.{find-items, last-items}
use Rattle.tree.proofs.Steps.{by-order, put_in-equal, put_in-greater, put_in-less, without-equal, without-greater, without-less}
use Rattle.tree.proofs.TreeLaws.{append-laws, contents-laws}
use Rattle.tree.specs.Append.{Behind}
use Rattle.tree.specs.Insert.{Present, compared, insert, on_side}
use Rattle.tree.specs.Kind.{Kind}
use Rattle.tree.specs.Listed.{put_in, without}
use Rattle.tree.specs.Lookup.{by_order, find, item_at, last, last_of, or_else}
use Rattle.tree.specs.Remove.{remove}
use Rattle.tree.specs.Shape.{Ascending, Item, item, items}
use Rattle.register.proofs.Growing.{nested-find}
use Rattle.register.proofs.Timed.{instants, names_of}
use Rattle.register.specs.Contents.{Card, Names, Sheet, card_at, card_of, card_tree, changed, earlier, entered, instant_at, nested_in, read_at, sheet_of, stages_of, with_card}
use Rattle.register.specs.Declined.{not_after}
use Rattle.register.specs.Keyed.{drop_at, put_at, value_at}
use Rattle.register.specs.Shapes.{Before, ByName, ByTime, SheetWith}
use Rattle.register.specs.Trees.{changed_tree, entered_tree, instant_words, with_card_tree}
use Rattle.register.specs.declared.entries.Change.{Change}
use Rattle.register.specs.declared.entries.Change.TheVariants.{Record, Correct, Withdraw}

-- the seconds of an instant, and the pairs that cards and lines hold
abbrev pub seconds_of : Instant → ℕ
seconds_of instant = instant.seconds

abbrev pub reading_of : Item Instant → ℕ × ℤ
reading_of x = (x.key.seconds, x.word)

abbrev pub stage_of : {K : Type 0} → Names K → Item Instant → ℕ × Sheet K
stage_of 𝓝 x = (x.key.seconds, sheet_of 𝓝 x.nested)

-- items shown as keys with values, and compared as their keys are shown
module _ {K L V : Type 0} (order : L → L → Ordering) (shown : K → L) (value : Item K → V) where
  abbrev comparing : K → K → Ordering
  comparing a b = order (shown a) (shown b)

  abbrev pairs : List (Item K) → List (L × V)
  pairs = map (λ x. (shown x.key, value x))

  pub put-pairs : (k : K) (word : ℤ) (nested : Tree) (xs : List (Item K))
      → pairs (put_in comparing k word nested xs) ≡ put_at order (shown k) (value (item k word nested)) (pairs xs)
  unfolding put_in
  put-pairs k word nested [] = refl
  put-pairs k word nested (x ∷ xs) =
      by-order (comparing k x.key) (λ e. rw (put_in-less comparing k word nested x xs e, e)) (λ e. rw (put_in-equal comparing k word nested x xs e, e))
      (λ e. rw (put_in-greater comparing k word nested x xs e, e, put-pairs k word nested xs))

  pub drop-pairs : (k : K) (xs : List (Item K)) → pairs (without comparing k xs) ≡ drop_at order (shown k) (pairs xs)
  unfolding without
  drop-pairs k [] = refl
  drop-pairs k (x ∷ xs) =
      by-order (comparing k x.key) (λ e. rw (without-less comparing k x xs e, e, drop-pairs k xs))
      (λ e. rw (without-equal comparing k x xs e, e, drop-pairs k xs)) (λ e. rw (without-greater comparing k x xs e, e, drop-pairs k xs))

  pub value-pairs : (k : K) (xs : List (Item K)) → value_at order (shown k) (pairs xs) ≡ option_map value (item_at comparing k xs)
  value-pairs k [] = refl
  value-pairs k (x ∷ xs) = by-order (comparing k x.key) (λ e. rw e (value-pairs k xs)) (λ e. rw e) (λ e. rw e (value-pairs k xs))

pub last-mapped : {A B : Type 0} (f : A → B) (xs : List A) → last_of (map f xs) ≡ option_map f (last_of xs)
last-mapped f [] = refl
last-mapped {A} {B} f (x ∷ xs) = rw (last-mapped f xs) (one (last_of xs))
  where
    one : (o : Option A) → or_else (option_map f o) (Some (f x)) ≡ option_map f (or_else o (Some x))
    one None = refl
    one (Some y) = refl

-- a key that a look finds is in the tree
pub present-find : {K : Type 0} (key : Words → K) (order : K → K → Ordering) (k : K) (t : Tree) → is_some (find key order k t) ≡ true
    → Present (compared key order k) t
unfolding find
present-find key order k leaf h = let z : ◌≡◌ {A = ℕ} 0 1 = cc in absurd (omega arith)
present-find {K} key order k (fork words word tall nested left right) h =
    one (order k (key words)) (find key order k left) (find key order k right) (present-find key order k left) (present-find key order k right) h
  where
    one : (o : Ordering) (before behind : Option (Item K)) {P Q : Type 0} → (is_some before ≡ true → P) → (is_some behind ≡ true → Q)
        → is_some (by_order o before (Some (item (key words) word nested)) behind) ≡ true → on_side o P Q
    one Less before behind p q h = p h
    one Equal before behind p q h = tt
    one Greater before behind p q h = q h

-- a card that has nodes is on the sheet
pub present-card : {K : Type 0} (𝓝 : Names K) (name : K) (t : Tree) → (card_tree 𝓝 name t ≡ leaf → ⊥)
    → Present (compared 𝓝.key 𝓝.order name) t
present-card {K} 𝓝 name t h = present-find 𝓝.key 𝓝.order name t (one (find 𝓝.key 𝓝.order name t) h)
  where
    one : (o : Option (Item K)) → (nested_in o ≡ leaf → ⊥) → is_some o ≡ true
    one None h = absurd (h refl)
    one (Some x) h = refl

-- and so is one that has a reading
pub present-read : {K : Type 0} (𝓝 : Names K) (name : K) (at : Instant) (t : Tree) → is_some (find instant_at earlier at (card_tree 𝓝 name t)) ≡ true
    → Present (compared 𝓝.key 𝓝.order name) t
present-read 𝓝 name at t h =
    present-card 𝓝 name t (λ e. present-find instant_at earlier at leaf (ap (λ (c : Tree). is_some (find instant_at earlier at c)) (sym e) ∙ h))

-- ---- a card

pub card-leaf : card_of leaf ≡ []
unfolding card_of
card-leaf = refl

pub card-fork : (words : Words) (word : ℤ) (tall : ℕ) (nested left right : Tree) → card_of (fork words word tall nested left right) ≡ [] → ⊥
unfolding card_of
card-fork words word tall nested left right = some (items instant_at left) _ (items instant_at right)
  where
    some : (xs : List (Item Instant)) (y : Item Instant) (ys : List (Item Instant)) → map reading_of (xs ++ y ∷ ys) ≡ [] → ⊥
    some [] y ys e = let z : ◌≡◌ {A = ℕ} 0 1 = cc in omega arith
    some (x ∷ xs) y ys e = let z : ◌≡◌ {A = ℕ} 0 1 = cc in omega arith

pub card-none : (t : Tree) → card_of t ≡ [] → t ≡ leaf
card-none leaf e = refl
card-none (fork words word tall nested left right) e = absurd (card-fork words word tall nested left right e)

module _ (at : Instant) where
  pub card-put : (reading : ℤ) (t : Tree) → ByTime t
      → card_of (insert (compared instant_at earlier at) (instant_words at) reading leaf t) ≡ put_at nat_cmp at.seconds reading (card_of t)
  unfolding card_of
  card-put reading t a =
      rw ((contents-laws instants).inserted at reading leaf t a) (put-pairs nat_cmp seconds_of (λ x. x.word) at reading leaf (items instant_at t))

  pub card-drop : (t : Tree) → ByTime t → card_of (remove (compared instant_at earlier at) t) ≡ drop_at nat_cmp at.seconds (card_of t)
  unfolding card_of
  card-drop t a = rw ((contents-laws instants).removed at t a) (drop-pairs nat_cmp seconds_of (λ x. x.word) at (items instant_at t))

  pub card-changed : (change : Change) (t : Tree) → ByTime t → card_of (changed_tree change at t) ≡ changed change at.seconds (card_of t)
  unfolding changed_tree
  card-changed (Record reading) t a = card-put reading t a
  card-changed (Correct reading) t a = card-put reading t a
  card-changed Withdraw t a = card-drop t a

  pub card-read : (t : Tree) → ByTime t → is_some (find instant_at earlier at t) ≡ is_some (value_at nat_cmp at.seconds (card_of t))
  unfolding card_of
  card-read t a =
      ap is_some (find-items instants at t a) ∙ one (item_at earlier at (items instant_at t))
      ∙ sym (ap is_some (value-pairs nat_cmp seconds_of (λ x. x.word) at (items instant_at t)))
    where
      one : (o : Option (Item Instant)) → is_some o ≡ is_some (option_map (λ (x : Item Instant). x.word) o)
      one None = refl
      one (Some x) = refl

-- ---- a sheet

module _ {K : Type 0} (𝓚 : Kind K) (named : Name → K) (called : K → Name) (name : K) where
  abbrev 𝓝 : Names K
  𝓝 = names_of 𝓚 named called

  pub card-at : {R : Tree → Type 0} (t : Tree) → SheetWith (ByName 𝓝) R t → card_of (card_tree 𝓝 name t) ≡ card_at 𝓝 name (sheet_of 𝓝 t)
  unfolding sheet_of
  card-at t h =
      ap (λ (o : Option (Item K)). card_of (nested_in o)) (find-items 𝓚 name t h.sheet) ∙ one (item_at 𝓚.order name (items 𝓚.key t))
      ∙ sym (ap (λ (o : Option Card). unwrap_or o []) (value-pairs 𝓚.order (λ k. k) (λ x. card_of x.nested) name (items 𝓚.key t)))
    where
      one : (o : Option (Item K)) → card_of (nested_in o) ≡ unwrap_or (option_map (λ (x : Item K). card_of x.nested) o) []
      one None = card-leaf
      one (Some x) = refl

  card-ordered : (t : Tree) → SheetWith (ByName 𝓝) ByTime t → ByTime (card_tree 𝓝 name t)
  card-ordered t h = nested-find ByTime 𝓚.key 𝓚.order tt name t h.cards

  pub read_at_lem : (at : Instant) (t : Tree) → SheetWith (ByName 𝓝) ByTime t
      → is_some (find instant_at earlier at (card_tree 𝓝 name t)) ≡ read_at 𝓝 name at.seconds (sheet_of 𝓝 t)
  read_at_lem at t h =
      card-read at (card_tree 𝓝 name t) (card-ordered t h)
      ∙ ap (λ (card : Card). is_some (value_at nat_cmp at.seconds card)) (card-at t h)

  pub sheet-with-card-contents : (card t : Tree) → ByName 𝓝 t
      → sheet_of 𝓝 (with_card_tree 𝓝 name card t) ≡ with_card 𝓝 name (card_of card) (sheet_of 𝓝 t)
  unfolding sheet_of with_card_tree
  sheet-with-card-contents leaf t a =
      rw (card-leaf, (contents-laws 𝓚).removed name t a) (drop-pairs 𝓚.order (λ k. k) (λ x. card_of x.nested) name (items 𝓚.key t))
  sheet-with-card-contents (fork words word tall nested left right) t a =
      let card : Tree = fork words word tall nested left right in
      rw ((contents-laws 𝓚).inserted name (pos 0) card t a, some (card_of card) (sheet_of 𝓝 t) (card-fork words word tall nested left right))
      (put-pairs 𝓚.order (λ k. k) (λ x. card_of x.nested) name (pos 0) card (items 𝓚.key t))
    where
      some : (card : Card) (sheet : Sheet K) → (card ≡ [] → ⊥) → with_card 𝓝 name card sheet ≡ put_at 𝓚.order name card sheet
      some [] sheet h = absurd (h refl)
      some (reading ∷ readings) sheet h = refl

  pub sheet-entered-contents : (at : Instant) (change : Change) (t : Tree) → SheetWith (ByName 𝓝) ByTime t
      → sheet_of 𝓝 (entered_tree 𝓝 name at change t) ≡ entered 𝓝 name at.seconds change (sheet_of 𝓝 t)
  unfolding entered
  sheet-entered-contents at change t h =
      let card : Tree = card_tree 𝓝 name t in
      sheet-with-card-contents (changed_tree change at card) t h.sheet
      ∙ ap (λ (c : Card). with_card 𝓝 name c (sheet_of 𝓝 t))
      (card-changed at change card (card-ordered t h) ∙ ap (changed change at.seconds) (card-at t h))

-- ---- a line

later-all : (at : Instant) (t : Tree) → Before at.seconds t → AllByRecursion (λ x. earlier at x.key ≡ Greater) (items instant_at t)
later-all at t = All-weaker _ _ (λ x l. grind (arith, nat_tests)) (items instant_at t)

pub behind-line : (at : Instant) (t : Tree) → Before at.seconds t → Behind (compared instant_at earlier at) t
behind-line at t h = (append-laws instants).behind at t (later-all at t h)

module _ {K : Type 0} (𝓝 : Names K) where
  pub stages-committed : (at : Instant) (sheet t : Tree) → Before at.seconds t
      → stages_of 𝓝 (insert (compared instant_at earlier at) (instant_words at) (pos 0) sheet t) ≡ stages_of 𝓝 t ++ (at.seconds, sheet_of 𝓝 sheet) ∷ []
  unfolding stages_of
  stages-committed at sheet t h =
      rw ((append-laws instants).last at (pos 0) sheet t (later-all at t h)) (map_push (stage_of 𝓝) (items instant_at t) (item at (pos 0) sheet))

  pub last-stage : (t : Tree) → last_of (stages_of 𝓝 t) ≡ option_map (stage_of 𝓝) (last instant_at earlier t)
  unfolding stages_of
  last-stage t = rw (last-items instants t) (last-mapped (stage_of 𝓝) (items instant_at t))

  pub before-later : (recorded : ℕ) (t : Tree) → not_after recorded (last_of (stages_of 𝓝 t)) ≡ false → ByTime t → Before recorded t
  unfolding stages_of
  before-later recorded t h a = below (items instant_at t) h a
    where
      skip : (o : Option (ℕ × Sheet K)) (p q : ℕ × Sheet K) → not_after recorded (or_else (or_else o (Some p)) (Some q)) ≡ false
          → not_after recorded (or_else o (Some p)) ≡ false
      skip None p q h = h
      skip (Some z) p q h = h

      below : (xs : List (Item Instant)) → not_after recorded (last_of (map (stage_of 𝓝) xs)) ≡ false → Ascending earlier xs
          → AllByRecursion (λ x. x.key.seconds < recorded) xs
      below [] h a = tt
      below (x ∷ []) h a = (grind (arith, nat_tests), tt)
      below (x ∷ y ∷ ys) h a =
          let rest = below (y ∷ ys) (skip (last_of (map (stage_of 𝓝) ys)) (stage_of 𝓝 y) (stage_of 𝓝 x) h) a.1 in
          let before : earlier x.key y.key ≡ Less = a.0.0 in
          let last : y.key.seconds < recorded = rest.0 in
          (grind (arith, nat_tests), rest)
