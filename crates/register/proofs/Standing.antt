-- The trees of a line and of a sitting are balanced, by the register's invariant.
use Rattle.std.proofs.Common.{◌≡◌, ℕ, ◌<◌, Bool, true, false, T, List, [], ◌∷◌, length, get_or, ℤ, ◌≤ℤ◌, Ordering, subst, Option}
use base.Stored.{Coded-set}
use mathlib.Core.Logic.{∥∥₁_elim}
use native.Mathlib.Bridge.{le_prop}
use native.Mathlib.Nat.{ℕ_set}
use lib.Signed.{le_z}
use Rattle.std.proofs.ByRecursion.{All-get_or}
use Rattle.std.specs.contracts.cmp.Ordering.{the_row as ordering-row}
use Rattle.std.specs.List.{AllByRecursion}
use Rattle.pool.specs.Held.{Held}
use Rattle.pool.specs.Tree.{Tree, fork, leaf}
use Rattle.pool.specs.declared.pool.Pool.{Pool}
use Rattle.tree.specs.Range.{Modest}
use Rattle.tree.specs.Shape.{Ascending, Balanced, Item, items}
use Rattle.register.specs.Contents.{earlier, instant_at}
use Rattle.register.specs.Kept.{Kept}
use Rattle.register.specs.Places.{Doing, Place, free, live}
use Rattle.register.specs.Shapes.{Filed, LineWith, Nested, SheetWith, Sturdy}
use Rattle.register.specs.declared.table.Record.{Record}

all_prop : {A : Type 0} (P : A → Type 0) → ((x : A) → IsProp (P x)) → (xs : List A) → IsProp (AllByRecursion P xs)
all_prop P prop [] a b = λ i. tt
all_prop P prop (x ∷ xs) a b = λ i. (prop x a.0 b.0 i, all_prop P prop xs a.1 b.1 i)

pub balanced-prop : (t : Tree) → IsProp (Balanced t)
balanced-prop leaf a b = λ i. tt
balanced-prop (fork words word tall nested left right) a b = λ i. (
  ℕ_set _ _ a.0 b.0 i,
  le_prop a.1 b.1 i,
  le_prop a.2 b.2 i,
  balanced-prop left a.3 b.3 i,
  balanced-prop right a.4 b.4 i,
)

-- so is what is known of a card
ordering-set : IsSet Ordering
ordering-set = Coded-set ordering-row.coded

ascending-prop : {K : Type 0} (order : K → K → Ordering) (xs : List (Item K)) → IsProp (Ascending order xs)
ascending-prop order [] a b = λ i. tt
ascending-prop order (x ∷ xs) a b = λ i. (all_prop _ (λ y. ordering-set _ _) xs a.0 b.0 i, ascending-prop order xs a.1 b.1 i)

test-prop : (b : Bool) → IsProp (T b)
test-prop true p q = λ i. tt
test-prop false p q = absurd p

le-signed-prop : (a b : ℤ) → IsProp (a ≤ℤ b)
le-signed-prop a b p q = λ i. record { le = test-prop (le_z a b) p.le q.le i }

pub filed-prop : (t : Tree) → IsProp (Filed t)
filed-prop t a b = λ i. record {
  balanced = balanced-prop t a.balanced b.balanced i;
  by_time = ascending-prop earlier (items instant_at t) a.by_time b.by_time i;
  modest = all_prop Modest (λ x. λ p q. λ j. (le-signed-prop _ _ p.0 q.0 j, le-signed-prop _ _ p.1 q.1 j)) (items instant_at t) a.modest b.modest i;
}

-- and of a line with its sheets and cards
nested-prop : (R : Tree → Type 0) → ((t : Tree) → IsProp (R t)) → (t : Tree) → IsProp (Nested R t)
nested-prop R prop leaf a b = λ i. tt
nested-prop R prop (fork words word tall nested left right) a b = λ i. (
  prop nested a.0 b.0 i,
  nested-prop R prop left a.1 b.1 i,
  nested-prop R prop right a.2 b.2 i,
)

pub sheet-prop : (t : Tree) → IsProp (SheetWith Balanced Filed t)
sheet-prop t a b = λ i. record { sheet = balanced-prop t a.sheet b.sheet i; cards = nested-prop Filed filed-prop t a.cards b.cards i }

pub line-prop : (t : Tree) → IsProp (LineWith Balanced Balanced Filed t)
line-prop t a b = λ i. record { line = balanced-prop t a.line b.line i; sheets = nested-prop (SheetWith Balanced Filed) sheet-prop t a.sheets b.sheets i }

-- what is true of a place where all trees are balanced, and has one proof
pub by-sturdy : {P : Type 0} → IsProp P → (p : Pool) (ls : List (Option Record)) (xs : List Place) → Kept p ls xs → (i : ℕ) → i < length xs → (y : Place) → get_or xs i free ≡ y → (Sturdy y → P) → P
by-sturdy prop p ls xs k i within y e give =
    ∥∥₁_elim k.sturdy prop (λ all. give (subst Sturdy e (All-get_or Sturdy xs i free within all)))

pub line-balanced : (p : Pool) (ls : List (Option Record)) (xs : List Place) → Kept p ls xs → (i : ℕ) → i < length xs → (n : ℕ) (h : Held) (d : Doing) → get_or xs i free ≡ live n h d → Balanced h.tree
line-balanced p ls xs k i within n h d e = by-sturdy (balanced-prop h.tree) p ls xs k i within (live n h d) e (λ s. s.0.line)
