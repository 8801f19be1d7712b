-- The owners of a pool in another order.
use Rattle.std.proofs.Common.{List, ◌∷◌, arith}
use Rattle.pool.proofs.Reorder.{holds-reordered}
use Rattle.pool.specs.Held.{Held, Holds}
use Rattle.pool.specs.declared.pool.Pool.{Pool}

module _ (p : Pool) (a b c : Held) (hs : List Held) where
  pub third-first : Holds p (a ∷ b ∷ c ∷ hs) → Holds p (c ∷ a ∷ b ∷ hs)
  third-first = holds-reordered p (a ∷ b ∷ c ∷ hs) (c ∷ a ∷ b ∷ hs) (λ m. omega arith) (λ k. (k.1.1.0, (k.0, (k.1.0, k.1.1.1))))

  pub first-third : Holds p (a ∷ b ∷ c ∷ hs) → Holds p (b ∷ c ∷ a ∷ hs)
  first-third = holds-reordered p (a ∷ b ∷ c ∷ hs) (b ∷ c ∷ a ∷ hs) (λ m. omega arith) (λ k. (k.1.0, (k.1.1.0, (k.0, k.1.1.1))))

module _ (p : Pool) (a b c d e : Held) (hs : List Held) where
  pub three-behind-two : Holds p (a ∷ b ∷ c ∷ d ∷ e ∷ hs) → Holds p (d ∷ e ∷ a ∷ b ∷ c ∷ hs)
  three-behind-two =
      holds-reordered p (a ∷ b ∷ c ∷ d ∷ e ∷ hs) (d ∷ e ∷ a ∷ b ∷ c ∷ hs) (λ m. omega arith)
      (λ k. (k.1.1.1.0, (k.1.1.1.1.0, (k.0, (k.1.0, (k.1.1.0, k.1.1.1.1.1))))))

  pub two-behind-three : Holds p (a ∷ b ∷ c ∷ d ∷ e ∷ hs) → Holds p (c ∷ d ∷ e ∷ a ∷ b ∷ hs)
  two-behind-three =
      holds-reordered p (a ∷ b ∷ c ∷ d ∷ e ∷ hs) (c ∷ d ∷ e ∷ a ∷ b ∷ hs) (λ m. omega arith)
      (λ k. (k.1.1.0, (k.1.1.1.0, (k.1.1.1.1.0, (k.0, (k.1.0, k.1.1.1.1.1))))))

module _ (p : Pool) (a b c : Held) (hs : List Held) where
  pub third-second : Holds p (a ∷ b ∷ c ∷ hs) → Holds p (a ∷ c ∷ b ∷ hs)
  third-second = holds-reordered p (a ∷ b ∷ c ∷ hs) (a ∷ c ∷ b ∷ hs) (λ m. omega arith) (λ k. (k.0, (k.1.1.0, (k.1.0, k.1.1.1))))

module _ (p : Pool) (a b c d : Held) (hs : List Held) where
  pub fourth-second : Holds p (a ∷ b ∷ c ∷ d ∷ hs) → Holds p (a ∷ d ∷ b ∷ c ∷ hs)
  fourth-second =
      holds-reordered p (a ∷ b ∷ c ∷ d ∷ hs) (a ∷ d ∷ b ∷ c ∷ hs) (λ m. omega arith)
      (λ k. (k.0, (k.1.1.1.0, (k.1.0, (k.1.1.0, k.1.1.1.1)))))

  pub two-behind-two : Holds p (a ∷ b ∷ c ∷ d ∷ hs) → Holds p (c ∷ d ∷ a ∷ b ∷ hs)
  two-behind-two =
      holds-reordered p (a ∷ b ∷ c ∷ d ∷ hs) (c ∷ d ∷ a ∷ b ∷ hs) (λ m. omega arith)
      (λ k. (k.1.1.0, (k.1.1.1.0, (k.0, (k.1.0, k.1.1.1.1)))))

  pub pairs-swapped : Holds p (a ∷ b ∷ c ∷ d ∷ hs) → Holds p (b ∷ a ∷ d ∷ c ∷ hs)
  pairs-swapped =
      holds-reordered p (a ∷ b ∷ c ∷ d ∷ hs) (b ∷ a ∷ d ∷ c ∷ hs) (λ m. omega arith)
      (λ k. (k.1.0, (k.0, (k.1.1.1.0, (k.1.1.0, k.1.1.1.1)))))

  pub first-fourth : Holds p (a ∷ b ∷ c ∷ d ∷ hs) → Holds p (b ∷ c ∷ d ∷ a ∷ hs)
  first-fourth =
      holds-reordered p (a ∷ b ∷ c ∷ d ∷ hs) (b ∷ c ∷ d ∷ a ∷ hs) (λ m. omega arith)
      (λ k. (k.1.0, (k.1.1.0, (k.1.1.1.0, (k.0, k.1.1.1.1)))))

module _ (p : Pool) (a b c : Held) (hs : List Held) where
  pub reversed : Holds p (a ∷ b ∷ c ∷ hs) → Holds p (c ∷ b ∷ a ∷ hs)
  reversed = holds-reordered p (a ∷ b ∷ c ∷ hs) (c ∷ b ∷ a ∷ hs) (λ m. omega arith) (λ k. (k.1.1.0, (k.1.0, (k.0, k.1.1.1))))

module _ (p : Pool) (a b c d e : Held) (hs : List Held) where
  pub five-reversed : Holds p (a ∷ b ∷ c ∷ d ∷ e ∷ hs) → Holds p (e ∷ d ∷ c ∷ b ∷ a ∷ hs)
  five-reversed =
      holds-reordered p (a ∷ b ∷ c ∷ d ∷ e ∷ hs) (e ∷ d ∷ c ∷ b ∷ a ∷ hs) (λ m. omega arith)
      (λ k. (k.1.1.1.1.0, (k.1.1.1.0, (k.1.1.0, (k.1.0, (k.0, k.1.1.1.1.1))))))
