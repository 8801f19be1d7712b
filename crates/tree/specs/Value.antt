-- A kind of value: how a value goes into a node's signed word and nested link and comes back.
use Rattle.std.specs.Prelude.{◌≡◌, ℕ, ℤ}

pub record ValueKind (V : Type 0) : Type 0 where
  pub word : V → ℤ
  -- what the value owns: the root of a nested tree, or 0 for nothing
  pub nested : V → ℕ
  pub value : ℤ → ℕ → V
  -- a value comes back unchanged
  pub back : (v : V) → value (word v) (nested v) ≡ v
