-- The law of whole runs: what is true at every moment of every run of calls on a newly made register, for every lawful order of names.
use Rattle.std.specs.List.{AllByRecursion}
use Rattle.std.specs.Prelude.{◌≡◌, ℕ, ◌+◌, ◌*◌, ◌≤◌, true, List, ◌∷◌, ◌++◌, map, Some, None, Option}
use Rattle.pool.specs.Held.{node_of}
use Rattle.pool.specs.Reached.{Accounted}
use Rattle.pool.specs.Sound.{memory_of}
use Rattle.pool.specs.declared.node.Node.{Node}
use Rattle.pool.specs.declared.pool.Pool.{Pool}
use Rattle.register.specs.Answering.{Answers, Branched, is_answer, is_settled, leaves_nodes}
use Rattle.register.specs.Calls.{Answer, Call, Handle, Question, asks, refused}
use Rattle.register.specs.Contents.{Names}
use Rattle.register.specs.Due.{due}
use Rattle.register.specs.History.{known_at}
use Rattle.register.specs.Places.{is_resting, owners_of, record_of}
use Rattle.register.specs.Shown.{Shown, Shows, at, newly_made}
use Rattle.register.specs.Turns.{Follows, LeavesNodes, Turn, call_with_answer, ended, growth, history_after, is_done, pool_after, shown_after, started, told_after}
use Rattle.register.specs.declared.refusal.Refusal.{Refusal}

-- a declined call answers its refusal and changes nothing; a call that nothing declines is not refused
abbrev pub Refuses : Option Refusal → Shown → Turn → Type 0
Refuses (Some why) before t = (t.answer ≡ refused why) × (t.after ≡ before)
Refuses None before t = is_answer t.answer ≡ true

-- of turns on a register that was made with this pool, and showed this at the start
pub record Law {K : Type 0} (𝓝 : Names K) (made : Pool) (start : Shown) (turns : List Turn) : Type 0 where
  -- a node is in use exactly when a live line reaches it, its count is the number of its owners, and the free list has every other node once
  pub accounted : AllByRecursion (λ t. Accounted t.pool (map node_of (owners_of t.after.places))) turns
  -- no call adds more nodes than it may
  pub bounded : (front back : List Turn) (t : Turn) → turns ≡ front ++ t ∷ back
      → t.after.used ≤ (shown_after start front).used + is_done t.answer * growth 𝓝 (shown_after start front) t.call
  -- where as many lines were ended as were started, all nodes are free
  pub given_back : (front back : List Turn) → turns ≡ front ++ back → ended front ≡ started front → (shown_after start front).used ≡ 0
  -- a refusal comes exactly where its condition holds by the histories of the lines and none before it in the table, and changes nothing
  pub refusals : (front back : List Turn) (t : Turn) → turns ≡ front ++ t ∷ back
      → Refuses (due 𝓝 (told_after front) (shown_after start front) t.call) (shown_after start front) t
  -- a refusal leaves every node as it was, and so does a question
  pub unchanged : (front back : List Turn) (t : Turn) → turns ≡ front ++ t ∷ back → leaves_nodes t.call t.answer ≡ true → t.pool ≡ pool_after made front
  -- every answer as of a recorded instant is the model's, over the line's history
  pub answered : (front back : List Turn) (t : Turn) → turns ≡ front ++ t ∷ back → (g : Handle) (recorded : ℕ) (q : Question) → t.call ≡ asks g recorded q
      → Answers 𝓝 (known_at recorded (history_after front g)) q t.answer
  -- an answer as of an instant that is not after the line's last stage is given again, by the line and by every line branched from it later
  pub fixed : (front between back : List Turn) (t t' : Turn) → turns ≡ front ++ t ∷ (between ++ t' ∷ back) → (g h : Handle) (recorded : ℕ) (q : Question)
      → t.call ≡ asks g recorded q → is_answer t.answer ≡ true → is_settled recorded (history_after front g) ≡ true
      → t'.call ≡ asks h recorded q → Branched (map call_with_answer between) g h → is_resting (at (shown_after start (front ++ t ∷ between)) h) ≡ true
      → t'.answer ≡ t.answer

-- any turns that follow one another on a newly made register obey the law
abbrev pub EveryRun : {K : Type 0} → Names K → Type 0
EveryRun 𝓝 =
    (made : Pool) (nodes first : ℕ) (turns : List Turn) → Follows 𝓝 (newly_made nodes first) turns → LeavesNodes made turns
    → Law 𝓝 made (newly_made nodes first) turns

-- what a run leaves in memory: the nodes of its last pool, each accounted for
pub record LeftIn (made : Pool) (start : Shown) (turns : List Turn) (memory : List Node) : Type 0 where
  pub nodes : memory_of (pool_after made turns) ≡ memory
  pub accounted : Accounted (pool_after made turns) (map node_of (owners_of (shown_after start turns).places))

-- A run of these calls with these answers on a register made in this memory, for which the law holds, and what it left there.
pub record Ran {K : Type 0} (𝓝 : Names K) (start : Shown) (calls : List Call) (answers : List Answer) (memory : List Node) : Type 0 where
  pub made : Pool
  pub fresh : Shows 𝓝 made (map record_of start.places) start.next start
  pub turns : List Turn
  pub calls_are : map (λ (t : Turn). t.call) turns ≡ calls
  pub answers_are : map (λ (t : Turn). t.answer) turns ≡ answers
  pub follows : Follows 𝓝 start turns
  pub leaves : LeavesNodes made turns
  pub law : Law 𝓝 made start turns
  pub left : LeftIn made start turns memory
