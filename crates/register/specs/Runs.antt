-- A run: calls with their answers, from one moment of a register to another. It is the turns that the law of whole runs speaks of:
-- each is a step, and a memory shows what it comes to.
use Rattle.std.specs.Prelude.{◌≡◌, List, map}
use Rattle.pool.specs.declared.pool.Pool.{Pool}
use Rattle.register.specs.Calls.{Answer, Call}
use Rattle.register.specs.Contents.{Names}
use Rattle.register.specs.Turns.{Follows, LeavesNodes, Turn, call_with_answer, pool_after, shown_after}
use Rattle.register.specs.Shown.{Shown}

-- a register's pool, and what it shows
pub record Moment : Type 0 where
  pub pool : Pool
  pub shown : Shown

pub record Runs {K : Type 0} (𝓝 : Names K) (m : Moment) (calls : List (Call × Answer)) (m' : Moment) : Type 0 where
  pub turns : List Turn
  pub calls_are : map call_with_answer turns ≡ calls
  pub follows : Follows 𝓝 m.shown turns
  pub leaves : LeavesNodes m.pool turns
  pub ends : shown_after m.shown turns ≡ m'.shown
  pub last : pool_after m.pool turns ≡ m'.pool
