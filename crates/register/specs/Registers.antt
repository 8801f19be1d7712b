-- What a call on a register tells: whatever the register shows before it, the call is a step from there to what it shows after it.
use Rattle.std.specs.Prelude.{◌≡◌, ◌≢◌, ℕ, drop, true, Some, Ok, Err, Option, Result}
use Rattle.pool.specs.declared.pool.Pool.{Pool}
use Rattle.register.specs.Answering.{leaves_nodes}
use Rattle.register.specs.Calls.{Answer, Call, Handle, Line, Sitting, line_handle, sitting_handle}
use Rattle.register.specs.Contents.{Names}
use Rattle.register.specs.Kept.{pool_in}
use Rattle.register.specs.Shown.{Shown, Shows}
use Rattle.register.specs.Steps.{Step}
use Rattle.register.specs.Tables.{line_of, state_in}
use Rattle.register.specs.declared.handle.Refused.{Refused}
use Rattle.register.specs.declared.register.Register.{Register}
use Rattle.register.specs.declared.table.State.{State}
use Rattle.register.specs.declared.table.State.TheVariants.{AtRest, Sitting as seated_at}

-- the pool that the register stands for: its nodes are the first of the memory, as many as its size says
abbrev pub pool_of : {N : Type 0} → Register N → Pool
pool_of r = pool_in r.nodes r.size r.state

-- A call works in the memory that was lent to the register: the same borrow, as many nodes of it, and what lies behind them as it was.
pub record SameLoan {N : Type 0} (before after : Register N) : Type 0 where
  pub borrow : after.nodes.ghost_name ≡ before.nodes.ghost_name
  pub size : after.size ≡ before.size
  pub behind : drop before.size after.nodes.now ≡ drop before.size before.nodes.now

module _ {N : Type 0} {K : Type 0} (𝓝 : Names K) where
  abbrev pub ShownBy : Register N → Shown → Type 0
  ShownBy r s = Shows 𝓝 (pool_of r) r.table.lines r.next s

  abbrev pub StepsTo : Register N → Call → Answer → Register N → Type 0
  StepsTo r call a r' = (s : Shown) → ShownBy r s → (s' : Shown) × ShownBy r' s' × Step 𝓝 s call a s'

  -- a refusal, a question, and an opening, stowing or fetching leave every node as it was
  pub record Tells (r : Register N) (call : Call) (a : Answer) (r' : Register N) : Type 0 where
    pub step : StepsTo r call a r'
    pub unchanged : leaves_nodes call a ≡ true → pool_of r' ≡ pool_of r

  -- a question tells of what is shown, and changes nothing
  abbrev pub Answers : Register N → Call → Answer → Type 0
  Answers r call a = (s : Shown) → ShownBy r s → Step 𝓝 s call a s

-- a declined call hands the handle back
abbrev pub HandsBack : {A H : Type 0} → H → Result A (Refused H) → Type 0
HandsBack handle (Ok value) = Unit {0}
HandsBack handle (Err e) = e.handle ≡ handle

-- a branching gives the line back, accepted or declined
abbrev pub GivesBack : Line → Result (Line × Line) (Refused Line) → Type 0
GivesBack line (Ok lines) = lines.0 ≡ line
GivesBack line (Err e) = e.handle ≡ line

-- the handle that comes back has the same place and serial
abbrev pub SameSitting : {E : Type 0} → Handle → Result Sitting E → Type 0
SameSitting handle (Ok given) = sitting_handle given ≡ handle
SameSitting handle (Err e) = Unit {0}

abbrev pub SameLine : {E : Type 0} → Handle → Result Line E → Type 0
SameLine handle (Ok line) = line_handle line ≡ handle
SameLine handle (Err e) = Unit {0}

-- the state of the line that has a handle
abbrev pub state_with : {N : Type 0} → Register N → Handle → Option State
state_with r h = state_in (line_of r.table.lines h.place h.serial)

-- a line at rest has the handle; a line in a sitting has it
unfoldable pub IsAtRest : {N : Type 0} → Register N → Handle → Type 0
IsAtRest r h = state_with r h ≡ Some AtRest

unfoldable pub IsInSitting : {N : Type 0} → Register N → Handle → Type 0
IsInSitting r h = (recorded : ℕ) × (sheet : ℕ) × (state_with r h ≡ Some (seated_at recorded sheet))

-- every handle that is so before a call is so after it; or every one of another place than the call's
abbrev pub Keeps : {N : Type 0} → (Register N → Handle → Type 0) → Register N → Register N → Type 0
Keeps IsSo r r' = (h : Handle) → IsSo r h → IsSo r' h

abbrev pub KeepsOthers : {N : Type 0} → (Register N → Handle → Type 0) → Handle → Register N → Register N → Type 0
KeepsOthers IsSo own r r' = (h : Handle) → h.place ≢ own.place → IsSo r h → IsSo r' h
