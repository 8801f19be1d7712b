-- Worked facts: small trees of numbers, in the order of the numbers, and which number is at the root.
use Rattle.std.specs.Prelude.{◌≡◌, ℕ, cond, List, [], ◌∷◌, pos, Some, None, Option, nat_lt}
use Rattle.std.specs.declared.cmp.Ordering.TheVariants.{Less, Equal, Greater}
use Rattle.std.specs.declared.cmp.Ordering.{Ordering}
use Rattle.pool.specs.Tree.{Tree, fork, leaf}
use Rattle.pool.specs.declared.node.Words.{Words}
use Rattle.tree.specs.Insert.{compared, insert}
use Rattle.tree.specs.Kind.{Kind}
use Rattle.tree.specs.Remove.{remove}

-- a number is stored as a low word
abbrev pub stored : ℕ → Words
stored n = record { high = 0; low = n }

abbrev pub number : Words → ℕ
number words = words.low

abbrev pub numerical : ℕ → ℕ → Ordering
numerical m n = cond (nat_lt m n) Less (cond (nat_lt n m) Greater Equal)

-- the numbers inserted one after another, the first one first
abbrev pub insert_all : Tree → List ℕ → Tree
insert_all t [] = t
insert_all t (n ∷ ns) = insert_all (insert (compared number numerical n) (stored n) (pos 0) leaf t) ns

abbrev pub root_of : Tree → Option ℕ
root_of leaf = None
root_of (fork words word tall nested left right) = Some (number words)

pub record WorkedFacts : Type 0 where
  -- the numbers are a kind of key
  pub lawful : (𝓚 : Kind ℕ) × (𝓚.words ≡ stored) × (𝓚.key ≡ number) × (𝓚.order ≡ numerical)
  -- three numbers in each of the six orders
  pub rising : root_of (insert_all leaf (10 ∷ 20 ∷ 30 ∷ [])) ≡ Some 20
  pub rising_last_two_turned : root_of (insert_all leaf (10 ∷ 30 ∷ 20 ∷ [])) ≡ Some 20
  pub middle_then_rising : root_of (insert_all leaf (20 ∷ 10 ∷ 30 ∷ [])) ≡ Some 20
  pub middle_then_falling : root_of (insert_all leaf (20 ∷ 30 ∷ 10 ∷ [])) ≡ Some 20
  pub falling_last_two_turned : root_of (insert_all leaf (30 ∷ 10 ∷ 20 ∷ [])) ≡ Some 20
  pub falling : root_of (insert_all leaf (30 ∷ 20 ∷ 10 ∷ [])) ≡ Some 20
  -- the right side is then too high
  pub removed : root_of (remove (compared number numerical 10) (insert_all leaf (20 ∷ 10 ∷ 30 ∷ 40 ∷ []))) ≡ Some 30
