-- A key that is not there: removing it leaves a balanced tree as it is.
use Rattle.std.proofs.Common.{◌≡◌, ℕ, ◌∷◌, ℤ, Ordering, Equal, sym, refl, ap, ◌∙◌}
use Rattle.std.specs.List.{AllByRecursion}
use Rattle.pool.specs.Tree.{Tree, fork, leaf}
use Rattle.pool.specs.declared.node.Words.{Words}
use Rattle.tree.proofs.Ascends.{all_back, all-front}
use Rattle.tree.proofs.Steps.{balance-level, by-order, remove-greater, remove-less}
use Rattle.tree.specs.Insert.{compared}
use Rattle.tree.specs.Rebuild.{balance}
use Rattle.tree.specs.Remove.{remove}
use Rattle.tree.specs.Shape.{Balanced, item, items}

-- a balanced fork is what its root and its sides are put together to
pub balance-itself : (words : Words) (word : ℤ) (tall : ℕ) (nested left right : Tree) → Balanced (fork words word tall nested left right)
    → balance words word nested left right ≡ fork words word tall nested left right
balance-itself words word tall nested left right b =
    balance-level words word nested left right b.1 b.2 ∙ ap (λ (h : ℕ). fork words word h nested left right) (sym b.0)

module _ {K : Type 0} (key : Words → K) (order : K → K → Ordering) (k : K) where
  pub remove_absent : (t : Tree) → Balanced t → AllByRecursion (λ x. order k x.key ≡ Equal → ⊥) (items key t) → remove (compared key order k) t ≡ t
  unfolding remove
  remove_absent leaf b h = refl
  remove_absent (fork words word tall nested left right) b h =
      let place : Words → Ordering = compared key order k in
      let front = all-front (λ x. order k x.key ≡ Equal → ⊥) (items key left) (item (key words) word nested ∷ items key right) h in
      let back = all_back (λ x. order k x.key ≡ Equal → ⊥) (items key left) (item (key words) word nested ∷ items key right) h in
      by-order (order k (key words))
      (λ e. remove-less place words word tall nested left right e ∙ ap (λ (t : Tree). balance words word nested t right) (remove_absent left b.3 front)
      ∙ balance-itself words word tall nested left right b)
      (λ e. absurd (back.0 e))
      (λ e. remove-greater place words word tall nested left right e ∙ ap (λ (t : Tree). balance words word nested left t) (remove_absent right b.4 back.1)
      ∙ balance-itself words word tall nested left right b)
