-- The answers that trees give are those of the lists that they hold.
use Rattle.std.proofs.Common.{◌≡◌, ℕ, Bool, true, false, cond, ◌&&◌, leb, List, [], ◌∷◌, map, length, ℤ, ◌+ℤ◌, Some, None, filter, Option, Ordering, Less, Equal, Greater, unwrap_or, sym, refl, ap, ◌∙◌, subst, arith}
use Rattle.std.proofs.lemmas.List.{length-map}
use Rattle.std.proofs.lemmas.Bool.Decides.{nat_tests}
use Rattle.std.specs.Option.{option_map}
use Rattle.std.specs.Ordering.{is_le, is_lt}
use Rattle.std.specs.List.{AllByRecursion}
use Rattle.kinds.specs.Readings.{nearest-same}
use Rattle.std.specs.Ordering.{nat_cmp}
use Rattle.kinds.specs.Reading.{reading_of as reading_from}
use Rattle.kinds.specs.declared.instant.Instant.{Instant}
use Rattle.kinds.specs.declared.name.Name.{Name}
use Rattle.kinds.specs.declared.reading.Reading.{Reading}
use Rattle.pool.specs.Tree.{Tree, leaf}
use Rattle.tree.proofs.Looking.{at_most-items}
use Rattle.tree.specs.Answer.{GivenItem}
use Rattle.tree.specs.Lookup.{by_order, first_after, first_of, last_at_most, last_of, or_else}
use Rattle.tree.specs.Range.{Modest, Totals, within}
use Rattle.tree.specs.Range as range
use Rattle.tree.specs.Shape.{Item, items}
use Rattle.tree.specs.declared.range.Total.{Total}
use Rattle.register.proofs.Holding.{reading_of, stage_of}
use Rattle.register.proofs.Timed.{instants}
use Rattle.register.specs.Asked.{comes_after, count_within, keys_of, last_up_to, next_name, readings_within, sheet_as_of, sum_within}
use Rattle.register.specs.Contents.{Card, Names, Sheet, card_of, earlier, instant_at, nested_in, sheet_of, stages_of}
use Rattle.register.specs.Found.{sheet_up_to}
use Rattle.register.specs.History.{sum_of}
use Rattle.register.specs.Shapes.{ByTime}
use Rattle.pool.specs.declared.node.Node.{Node}

le-nat_cmp : (a b : ℕ) → is_le (nat_cmp a b) ≡ leb a b
le-nat_cmp a b = grind (arith, nat_tests)

-- ---- the last one up to an instant

module _ {V : Type 0} (value : Item Instant → V) (at : Instant) where
  abbrev shown : Item Instant → ℕ × V
  shown x = (x.key.seconds, value x)

  -- a pair passes, or is passed over
  step : (x : Item Instant) (o : Ordering) (b : Bool) → is_le o ≡ b → (found : Option (Item Instant)) (rest : List (ℕ × V)) → last_of rest ≡ option_map shown found
      → last_of (cond b (shown x ∷ rest) rest) ≡ option_map shown (or_else found (by_order o (Some x) (Some x) None))
  step x Less true e None rest f = rw f
  step x Less true e (Some y) rest f = rw f
  step x Equal true e None rest f = rw f
  step x Equal true e (Some y) rest f = rw f
  step x Greater false e None rest f = f
  step x Greater false e (Some y) rest f = f
  step x Less false e found rest f = absurd (let z : ◌≡◌ {A = ℕ} 0 1 = cc in omega arith)
  step x Equal false e found rest f = absurd (let z : ◌≡◌ {A = ℕ} 0 1 = cc in omega arith)
  step x Greater true e found rest f = absurd (let z : ◌≡◌ {A = ℕ} 0 1 = cc in omega arith)

  pub last-up-to : (xs : List (Item Instant)) → last_up_to at.seconds (map shown xs) ≡ option_map shown (last_at_most earlier at xs)
  last-up-to [] = refl
  last-up-to (x ∷ xs) = step x (earlier x.key at) (leb x.key.seconds at.seconds) (le-nat_cmp x.key.seconds at.seconds) (last_at_most earlier at xs) _ (last-up-to xs)

no-sheet : {K : Type 0} (𝓝 : Names K) → sheet_of 𝓝 leaf ≡ []
unfolding sheet_of
no-sheet 𝓝 = refl

pub sheet-as-of-tree : {K : Type 0} (𝓝 : Names K) (at : Instant) (t : Tree) → ByTime t → sheet_as_of at.seconds (stages_of 𝓝 t) ≡ sheet_of 𝓝 (sheet_up_to at t)
unfolding stages_of
sheet-as-of-tree {K} 𝓝 at t a =
    ap (λ (o : Option (ℕ × Sheet K)). unwrap_or (option_map (λ (s : ℕ × Sheet K). s.1) o) []) (last-up-to (λ x. sheet_of 𝓝 x.nested) at (items instant_at t))
    ∙ one (last_at_most earlier at (items instant_at t))
    ∙ ap (λ (o : Option (Item Instant)). sheet_of 𝓝 (nested_in o)) (sym (at_most-items instants at t a))
  where
    one : (o : Option (Item Instant)) → unwrap_or (option_map (λ (s : ℕ × Sheet K). s.1) (option_map (stage_of 𝓝) o)) [] ≡ sheet_of 𝓝 (nested_in o)
    one None = sym (no-sheet 𝓝)
    one (Some x) = refl

-- ---- a reading

abbrev pub reading_value : ℤ → ℕ → Reading
reading_value word link = reading_from word

abbrev pub plain : Instant × Reading → ℕ × ℤ
plain x = (x.0.seconds, x.1.microhertz)

-- what is true of all items is true of the one that is found
found_all : (P : Item Instant → Type 0) (at : Instant) (xs : List (Item Instant)) → AllByRecursion P xs → (x : Item Instant) → last_at_most earlier at xs ≡ Some x → P x
found_all P at [] a x e = absurd (let z : ◌≡◌ {A = ℕ} 0 1 = cc in omega arith)
found_all P at (y ∷ ys) a x e = one (earlier y.key at) (last_at_most earlier at ys) (λ z f. found_all P at ys a.1 z f) e
  where
    one : (o : Ordering) (rest : Option (Item Instant)) → ((z : Item Instant) → rest ≡ Some z → P z) → or_else rest (by_order o (Some y) (Some y) None) ≡ Some x → P x
    one o (Some z) f e = let g : z ≡ x = cc in subst P g (f z refl)
    one Less None f e = let g : y ≡ x = cc in subst P g a.0
    one Equal None f e = let g : y ≡ x = cc in subst P g a.0
    one Greater None f e = absurd (let z : ◌≡◌ {A = ℕ} 0 1 = cc in omega arith)

given-reading : (mem : List Node) (o : Option (Item Instant)) (r : Option (Instant × Reading)) → GivenItem mem reading_value o r → ((x : Item Instant) → o ≡ Some x → Modest x)
    → option_map plain r ≡ option_map reading_of o
given-reading mem None None g m = refl
given-reading mem None (Some r) g m = elim g [ ]
given-reading mem (Some x) None g m = elim g [ ]
given-reading mem (Some x) (Some r) g m =
    let instant : r.0 ≡ x.key = g.0 in
    let reading : r.1 ≡ reading_from x.word = g.1.value-is in
    let same : r.1.microhertz ≡ x.word = ap (λ (y : Reading). y.microhertz) reading ∙ nearest-same x.word (m x refl) in
    λ i. Some ((instant i).seconds, same i)

pub reading-found : (mem : List Node) (at : Instant) (t : Tree) (r : Option (Instant × Reading)) → AllByRecursion Modest (items instant_at t)
    → GivenItem mem reading_value (last_at_most earlier at (items instant_at t)) r → option_map plain r ≡ last_up_to at.seconds (card_of t)
unfolding card_of
reading-found mem at t r modest given =
    given-reading mem (last_at_most earlier at (items instant_at t)) r given (λ x e. found_all Modest at (items instant_at t) modest x e)
    ∙ sym (last-up-to (λ x. x.word) at (items instant_at t))

-- ---- a total

module _ (from to : Instant) where
  within-shown : (xs : List (Item Instant)) → readings_within from.seconds to.seconds (map reading_of xs) ≡ map reading_of (within earlier from to xs)
  within-shown [] = refl
  within-shown (x ∷ xs) =
      let low = le-nat_cmp from.seconds x.key.seconds in
      let high = le-nat_cmp x.key.seconds to.seconds in
      let rest = within-shown xs in
      rw (low, high) (kept (leb from.seconds x.key.seconds && leb x.key.seconds to.seconds) _ (within earlier from to xs) rest)
    where
      kept : (b : Bool) (ys : Card) (us : List (Item Instant)) → ys ≡ map reading_of us → cond b (reading_of x ∷ ys) ys ≡ map reading_of (cond b (x ∷ us) us)
      kept true ys us e = ap (λ (zs : Card). reading_of x ∷ zs) e
      kept false ys us e = e

sum-shown : (xs : List (Item Instant)) → sum_of (map reading_of xs) ≡ range.sum_of xs
sum-shown [] = refl
sum-shown (x ∷ xs) = ap (λ (z : ℤ). x.word +ℤ z) (sum-shown xs)

module _ (from to : Instant) (t : Tree) (r : Total) (totals : Totals (within earlier from to (items instant_at t)) r) where
  pub count-found : r.count ≡ count_within from.seconds to.seconds (card_of t)
  unfolding card_of
  count-found =
      totals.count_is ∙ sym (length-map (within earlier from to (items instant_at t)) reading_of) ∙ ap length (sym (within-shown from to (items instant_at t)))

  pub sum-found : r.sum ≡ sum_within from.seconds to.seconds (card_of t)
  unfolding card_of
  sum-found = totals.sum_is ∙ sym (sum-shown (within earlier from to (items instant_at t))) ∙ ap sum_of (sym (within-shown from to (items instant_at t)))

-- ---- names

module _ {K : Type 0} (𝓝 : Names K) where
  keys-shown : (t : Tree) → keys_of (sheet_of 𝓝 t) ≡ map (λ (x : Item K). x.key) (items 𝓝.key t)
  unfolding sheet_of
  keys-shown t = all (items 𝓝.key t)
    where
      all : (xs : List (Item K)) → keys_of (map (λ (x : Item K). (x.key, card_of x.nested)) xs) ≡ map (λ (x : Item K). x.key) xs
      all [] = refl
      all (x ∷ xs) = ap (λ (ks : List K). x.key ∷ ks) (all xs)

  first_key : (xs : List (Item K)) → first_of (filter (comes_after 𝓝 None) (map (λ (x : Item K). x.key) xs)) ≡ option_map (λ (x : Item K). x.key) (first_of xs)
  first_key [] = refl
  first_key (x ∷ xs) = refl

  after-key : (k : K) (xs : List (Item K))
      → first_of (filter (comes_after 𝓝 (Some k)) (map (λ (x : Item K). x.key) xs)) ≡ option_map (λ (x : Item K). x.key) (first_after 𝓝.order k xs)
  after-key k [] = refl
  after-key k (x ∷ xs) = one (𝓝.order k x.key) (after-key k xs)
    where
      one : (o : Ordering) → first_of (filter (comes_after 𝓝 (Some k)) (map (λ (x : Item K). x.key) xs)) ≡ option_map (λ (x : Item K). x.key) (first_after 𝓝.order k xs)
          → first_of (cond (is_lt o) (x.key ∷ filter (comes_after 𝓝 (Some k)) (map (λ (x : Item K). x.key) xs)) (filter (comes_after 𝓝 (Some k)) (map (λ (x : Item K). x.key) xs)))
          ≡ option_map (λ (y : Item K). y.key) (by_order o (Some x) (first_after 𝓝.order k xs) (first_after 𝓝.order k xs))
      one Less e = refl
      one Equal e = e
      one Greater e = e

  -- the name of an item
  item-named : (o : Option (Item K))
      → option_map (λ (x : Item K). 𝓝.name x.key) o ≡ option_map 𝓝.name (option_map (λ (x : Item K). x.key) o)
  item-named None = refl
  item-named (Some x) = refl

  pub first-named : (t : Tree) (r : Option Name) → r ≡ option_map (λ (x : Item K). 𝓝.name x.key) (first_of (items 𝓝.key t))
      → r ≡ option_map 𝓝.name (next_name 𝓝 None (sheet_of 𝓝 t))
  first-named t r is =
      is ∙ item-named (first_of (items 𝓝.key t))
      ∙ ap (option_map 𝓝.name) (sym (ap (λ (ks : List K). first_of (filter (comes_after 𝓝 None) ks)) (keys-shown t) ∙ first_key (items 𝓝.key t)))

  pub next-named : (k : K) (t : Tree) (r : Option Name) → r ≡ option_map (λ (x : Item K). 𝓝.name x.key) (first_after 𝓝.order k (items 𝓝.key t))
      → r ≡ option_map 𝓝.name (next_name 𝓝 (Some k) (sheet_of 𝓝 t))
  next-named k t r is =
      is ∙ item-named (first_after 𝓝.order k (items 𝓝.key t))
      ∙ ap (option_map 𝓝.name) (sym (ap (λ (ks : List K). first_of (filter (comes_after 𝓝 (Some k)) ks)) (keys-shown t) ∙ after-key k (items 𝓝.key t)))
