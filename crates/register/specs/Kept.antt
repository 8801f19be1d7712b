-- The register's invariant, which needs no order of names: the pool holds just the nodes that the table's lines own, and all trees are balanced.
use Rattle.std.specs.Prelude.{◌≡◌, ℕ, List, map, take, Option}
use Rattle.std.specs.Borrow.{MutBor}
use Rattle.std.specs.List.{AllByRecursion}
use Rattle.pool.specs.Held.{Holds}
use Rattle.pool.specs.declared.node.Node.{Node}
use Rattle.pool.specs.declared.pool.Pool.{Pool}
use Rattle.pool.specs.declared.state.PoolState.{PoolState}
use Rattle.register.specs.Places.{Place, owners_of, record_of}
use Rattle.register.specs.Shapes.{Sturdy}
use Rattle.register.specs.declared.table.Record.{Record}

-- the pool of the first nodes of a memory
abbrev pub pool_in : MutBor (List Node) → ℕ → PoolState → Pool
pool_in nodes size state = record {
  nodes = record { ref_ptr = nodes.ref_ptr; ghost_name = nodes.ghost_name; now = take size nodes.now };
  free = state.free;
  used = state.used;
}

pub record Kept (pool : Pool) (lines : List (Option Record)) (places : List Place) : Type 0 where
  pub rows : lines ≡ map record_of places
  pub holds : Holds pool (owners_of places)
  pub sturdy : ∥ AllByRecursion Sturdy places ∥₁
