-- When two totals have a sum, and what it is.
use Rattle.std.specs.Prelude.{◌≡◌, ◌+◌, ◌^◌, ◌<◌, pos, negsuc, ◌+ℤ◌, ◌≤ℤ◌}
use Rattle.tree.specs.declared.range.Total.{Total}

-- two totals have a sum
pub record Fits (a b : Total) : Type 0 where
  pub counted : a.count + b.count < 2 ^ 32
  pub above : negsuc 9_000_000_000_000_000_000 ≤ℤ (a.sum +ℤ b.sum)
  pub below : (a.sum +ℤ b.sum) ≤ℤ pos 9_000_000_000_000_000_000

-- the total r is the sum of two
pub record Sums (a b r : Total) : Type 0 where
  pub count : r.count ≡ a.count + b.count
  pub sum : r.sum ≡ a.sum +ℤ b.sum
