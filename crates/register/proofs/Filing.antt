-- Entries and commits keep every tree balanced, and every card in order with readings in range.
use Rattle.std.proofs.Common.{◌≡◌, ℕ, Bool, true, false, not, ◌&&◌, T, List, [], ◌∷◌, ℤ, pos, negsuc, ◌≤ℤ◌, Ordering, sym, refl, subst, arith}
use lib.Signed.{le_z, le_z_yes}
use Rattle.std.specs.List.{AllByRecursion}
use Rattle.kinds.specs.declared.instant.Instant.{Instant}
use Rattle.pool.specs.Tree.{Tree, leaf}
use Rattle.tree.proofs.Balances.{insert-grown, remove-shrunk}
use Rattle.tree.proofs.Steps.{by-order, put_in-equal, put_in-greater, put_in-less, without-equal, without-greater, without-less}
use Rattle.tree.proofs.TreeLaws.{contents-laws, order-laws}
use Rattle.tree.specs.Insert.{compared, insert}
use Rattle.tree.specs.Listed.{put_in, without}
use Rattle.tree.specs.Range.{Modest}
use Rattle.tree.specs.Remove.{remove}
use Rattle.tree.specs.Shape.{Balanced, Item, item, items}
use Rattle.register.proofs.Growing.{line-committed, sheet-entered}
use Rattle.register.proofs.Timed.{instants}
use Rattle.register.specs.Contents.{Names, earlier, instant_at}
use Rattle.register.specs.Declined.{out_of_range}
use Rattle.register.specs.Rules.{in_range}
use Rattle.register.specs.Shapes.{Filed, LineWith, SheetWith}
use Rattle.register.specs.Trees.{changed_tree, entered_tree, instant_words}
use Rattle.register.specs.declared.entries.Change.{Change}
use Rattle.register.specs.declared.entries.Change.TheVariants.{Record, Correct, Withdraw}

pub filed-leaf : Filed leaf
filed-leaf = record { balanced = tt; by_time = tt; modest = tt }

not-false : (b : Bool) → not b ≡ false → b ≡ true
not-false true e = refl
not-false false e = absurd (let z : ◌≡◌ {A = ℕ} 0 1 = cc in omega arith)

range-modest : (z : ℤ) → in_range z ≡ true → (negsuc 999999999999 ≤ℤ z) × (z ≤ℤ pos 1000000000000)
range-modest z e =
    let (low, high) = both_true (le_z (negsuc 999999999999) z) (le_z z (pos 1000000000000)) e in
    (le_z_yes (subst T (sym low) tt), le_z_yes (subst T (sym high) tt))
  where
    both_true : (a b : Bool) → (a && b) ≡ true → (a ≡ true) × (b ≡ true)
    both_true true b e = (refl, e)
    both_true false b e = absurd (let z : ◌≡◌ {A = ℕ} 0 1 = cc in omega arith)

-- what holds of all items, after a put and after a drop
all-put : {K : Type 0} (order : K → K → Ordering) (P : Item K → Type 0) (k : K) (word : ℤ) (nested : Tree) (xs : List (Item K)) → AllByRecursion P xs → P (item k word nested)
    → AllByRecursion P (put_in order k word nested xs)
unfolding put_in
all-put order P k word nested [] a new = (new, tt)
all-put order P k word nested (x ∷ xs) a new =
    by-order (order k x.key) (λ e. rw (put_in-less order k word nested x xs e) (new, a)) (λ e. rw (put_in-equal order k word nested x xs e) (new, a.1))
    (λ e. rw (put_in-greater order k word nested x xs e) (a.0, all-put order P k word nested xs a.1 new))

all-dropped : {K : Type 0} (order : K → K → Ordering) (P : Item K → Type 0) (k : K) (xs : List (Item K)) → AllByRecursion P xs → AllByRecursion P (without order k xs)
unfolding without
all-dropped order P k [] a = tt
all-dropped order P k (x ∷ xs) a =
    let rest = all-dropped order P k xs a.1 in
    by-order (order k x.key) (λ e. rw (without-less order k x xs e) (a.0, rest)) (λ e. rw (without-equal order k x xs e) rest)
    (λ e. rw (without-greater order k x xs e) (a.0, rest))

-- a reading in range put on a card, and a reading taken off it
filed-put : (measured : Instant) (reading : ℤ) (t : Tree) → in_range reading ≡ true → Filed t
    → Filed (insert (compared instant_at earlier measured) (instant_words measured) reading leaf t)
filed-put measured reading t inside f =
    record {
      balanced = (insert-grown (compared instant_at earlier measured) (instant_words measured) reading leaf t f.balanced).balanced;
      by_time = (order-laws instants).inserted measured reading leaf t f.by_time;
      modest = rw ((contents-laws instants).inserted measured reading leaf t f.by_time)
          (all-put earlier Modest measured reading leaf (items instant_at t) f.modest (range-modest reading inside));
    }

filed-dropped : (measured : Instant) (t : Tree) → Filed t → Filed (remove (compared instant_at earlier measured) t)
filed-dropped measured t f =
    record {
      balanced = (remove-shrunk (compared instant_at earlier measured) t f.balanced).balanced;
      by_time = (order-laws instants).removed measured t f.by_time;
      modest = rw ((contents-laws instants).removed measured t f.by_time) (all-dropped earlier Modest measured (items instant_at t) f.modest);
    }

pub sturdy-changed : (change : Change) → out_of_range change ≡ false → (measured : Instant) (t : Tree) → Filed t → Filed (changed_tree change measured t)
unfolding changed_tree
sturdy-changed (Record reading) inside measured t f = filed-put measured reading t (not-false (in_range reading) inside) f
sturdy-changed (Correct reading) inside measured t f = filed-put measured reading t (not-false (in_range reading) inside) f
sturdy-changed Withdraw inside measured t f = filed-dropped measured t f

pub sturdy-entered : {K : Type 0} (𝓝 : Names K) (name : K) (measured : Instant) (change : Change) → out_of_range change ≡ false → (t : Tree) → SheetWith Balanced Filed t
    → SheetWith Balanced Filed (entered_tree 𝓝 name measured change t)
sturdy-entered 𝓝 name measured change inside =
    sheet-entered 𝓝 name Balanced Filed
    (λ word nested t b. (insert-grown (compared 𝓝.key 𝓝.order name) (𝓝.words name) word nested t b).balanced)
    (λ t b. (remove-shrunk (compared 𝓝.key 𝓝.order name) t b).balanced) filed-leaf measured change (λ t. sturdy-changed change inside measured t)

pub sturdy-committed : (at : Instant) (sheet t : Tree) → SheetWith Balanced Filed sheet → LineWith Balanced Balanced Filed t
    → LineWith Balanced Balanced Filed (insert (compared instant_at earlier at) (instant_words at) (pos 0) sheet t)
sturdy-committed at =
    line-committed Balanced Balanced Filed at
    (λ nested t b. (insert-grown (compared instant_at earlier at) (instant_words at) (pos 0) nested t b).balanced)
