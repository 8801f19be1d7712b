-- What a pool holds once two sides were put under a root by the test of their heights.
use Rattle.std.proofs.Common.{◌≡◌, ℕ, ◌+◌, ◌<◌, ◌≤◌, List, ◌∷◌, sym, subst, arith}
use Rattle.pool.specs.Held.{Held, Holds, held}
use Rattle.pool.specs.Tree.{Tree}
use Rattle.pool.specs.declared.node.Node.{Node}
use Rattle.pool.specs.declared.pool.Pool.{Pool}
use Rattle.tree.proofs.Building.{left-carries, right-carries}
use Rattle.tree.proofs.Rotating.{Measures, Puts}
use Rattle.tree.proofs.Sides.{sides}
use Rattle.tree.proofs.Steps.{balance-left, balance-level, balance-right}
use Rattle.tree.specs.Rebuild.{balance, node, rotate_left, rotate_right}
use Rattle.tree.specs.Shape.{height}

module _ (p q : Pool) (root : Node) (left right before behind : ℕ) (before-is : Measures p left before) (behind-is : Measures p right behind) where
  module _ (nested l r : Tree) (hs : List Held) (h : Holds p (sides root left right nested l r hs)) where
    left_is : before ≡ height l
    left_is = before-is l (left-carries p root left right nested l r hs h)

    right_is : behind ≡ height r
    right_is = behind-is r (right-carries p root left right nested l r hs h)

  pub balanced_left : behind + 1 < before → (n : ℕ) → Puts rotate_right p q root left right n → Puts balance p q root left right n
  balanced_left test n put nested l r hs h =
      subst (λ (t : Tree). Holds q (held n t ∷ hs))
      (sym (balance-left root.key root.word nested l r (omega (arith, left_is nested l r hs h, right_is nested l r hs h))))
      (put nested l r hs h)

  pub balanced_right : before ≤ behind + 1 → before + 1 < behind → (n : ℕ) → Puts rotate_left p q root left right n → Puts balance p q root left right n
  balanced_right low test n put nested l r hs h =
      let a = left_is nested l r hs h in
      let b = right_is nested l r hs h in
      subst (λ (t : Tree). Holds q (held n t ∷ hs)) (sym (balance-right root.key root.word nested l r (omega arith) (omega arith)))
      (put nested l r hs h)

  pub balanced-level : before ≤ behind + 1 → behind ≤ before + 1 → (n : ℕ) → Puts node p q root left right n → Puts balance p q root left right n
  balanced-level low high n put nested l r hs h =
      let a = left_is nested l r hs h in
      let b = right_is nested l r hs h in
      subst (λ (t : Tree). Holds q (held n t ∷ hs)) (sym (balance-level root.key root.word nested l r (omega arith) (omega arith)))
      (put nested l r hs h)
