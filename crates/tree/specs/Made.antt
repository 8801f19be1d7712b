-- What a call that puts nodes together leaves, besides what the pool holds.
use Rattle.std.specs.Prelude.{◌≡◌, ℕ, ◌+◌, ◌≤◌, length}
use Rattle.pool.specs.Node.{node_at}
use Rattle.pool.specs.Sound.{lender_of, memory_of, used_of}
use Rattle.pool.specs.declared.pool.Pool.{Pool}

-- at most so many nodes more are in use, the node n has one owner, and the pool is as large as it was, in the same borrow
pub record Made (before after : Pool) (most n : ℕ) : Type 0 where
  pub used : used_of after ≤ used_of before + most
  pub fresh : (node_at (memory_of after) n).count ≡ 1
  pub size : length (memory_of after) ≡ length (memory_of before)
  pub lent : lender_of after ≡ lender_of before
