-- What a write to one node changes.
use Rattle.std.specs.Prelude.{◌≡◌, ℕ, ◌-◌, length, slice_set}
use Rattle.pool.specs.Sound.{lender_of, memory_of, used_of}
use Rattle.pool.specs.declared.node.Node.{Node}
use Rattle.pool.specs.declared.pool.Pool.{Pool}

-- the node n is x, and all else is as it was
pub record Puts (before : Pool) (n : ℕ) (x : Node) (after : Pool) : Type 0 where
  pub memory : memory_of after ≡ slice_set (memory_of before) (n - 1) x
  pub free : after.free ≡ before.free
  pub used : used_of after ≡ used_of before
  pub size : length (memory_of after) ≡ length (memory_of before)
  pub lent : lender_of after ≡ lender_of before
