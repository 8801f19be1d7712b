-- No call adds more nodes than it may, refusals come where their conditions hold, and every memory accounts for its nodes.
use Rattle.std.proofs.Common.{◌≡◌, ◌+◌, ◌*◌, ◌≤◌, true, List, [], ◌∷◌, ◌++◌, map, Some, None, Option, refl, ap, ◌∙◌, subst, arith}
use Rattle.std.specs.List.{AllByRecursion}
use Rattle.pool.proofs.Pools.{holds-in}
use Rattle.pool.proofs.Reached.{accounted}
use Rattle.pool.specs.Held.{Held, Holds, node_of}
use Rattle.pool.specs.Reached.{Accounted}
use Rattle.pool.specs.Sound.{memory_of, used_of}
use Rattle.pool.specs.declared.pool.Pool.{Pool}
use Rattle.register.proofs.Splitting.{by-step, follows-back}
use Rattle.register.specs.Answering.{is_answer}
use Rattle.register.specs.Calls.{Answer, Call, Question, abandons, as_of, asks, begins, branches, commits, enters, fetches, next_name, opens, retires, stows, tallies, total}
use Rattle.register.specs.Contents.{Names, Sheet}
use Rattle.register.specs.Declined.{declined}
use Rattle.register.specs.Law.{Refuses}
use Rattle.register.specs.Turns.{Follows, Turn, growth, is_done, shown_after}
use Rattle.register.specs.Places.{owners_of}
use Rattle.register.specs.Shown.{Shown}
use Rattle.register.specs.Steps.{Accepted, Step, Unless, answer_to}
use Rattle.register.specs.declared.refusal.Refusal.{Refusal}

-- ---- the memory

pub memory-accounted : (p : Pool) (hs : List Held) → Holds p hs → Accounted p (map node_of hs)
memory-accounted p hs h = accounted (memory_of p) p.free (used_of p) (map node_of hs) (holds-in p hs h).sound

module _ {K : Type 0} (𝓝 : Names K) where
  pub turns-accounted : (s : Shown) (turns : List Turn) → Follows 𝓝 s turns → AllByRecursion (λ t. Accounted t.pool (map node_of (owners_of t.after.places))) turns
  turns-accounted s [] f = tt
  turns-accounted s (t ∷ ts) f = (memory-accounted t.pool (owners_of t.after.places) f.1.kept.holds, turns-accounted t.after ts f.2)

  -- ---- one step

  grows : (s s' : Shown) (call : Call) (a : Answer) → Accepted 𝓝 s call a s' → s'.used ≤ s.used + is_done a * growth 𝓝 s call
  grows s s' opens a h = rw (h.0, h.1) (omega arith)
  grows s s' (branches handle) a h = rw (h.0, h.1) (omega arith)
  grows s s' (begins handle recorded) a h = rw (h.0, h.1.after) (omega arith)
  grows s s' (enters handle bytes measured change) a h = rw (h.0, h.1.after) (omega (arith, h.1.grown))
  grows s s' (commits handle) a h = rw (h.0, h.1.after) (omega (arith, h.1.grown))
  grows s s' (abandons handle) a h = rw (h.0, h.1.after) (omega (arith, h.1.fewer))
  grows s s' (stows handle letter) a h = rw (h.0, h.1) (omega arith)
  grows s s' (fetches letter) a h = rw (h.0, h.1) (omega arith)
  grows s s' (retires handle) a h = rw (h.0, h.1.after) (omega (arith, h.1.fewer))
  grows s s' tallies a h = rw (h.0, h.1) (omega arith)
  grows s s' (asks handle recorded question) a h = rw h.1 (omega arith)

  pub step-bounded : (s s' : Shown) (call : Call) (a : Answer) → Step 𝓝 s call a s' → s'.used ≤ s.used + is_done a * growth 𝓝 s call
  step-bounded s s' call a step = by-step 𝓝 s s' call a step (λ why d e same. rw (e, same) (omega arith)) (λ d. grows s s' call a)

  answer-is : (s : Shown) (q : Question) (sheet : Sheet K) → is_answer (answer_to 𝓝 s q sheet) ≡ true
  answer-is s (as_of name measured) sheet = refl
  answer-is s (total name from to) sheet = refl
  answer-is s (next_name given) sheet = refl

  answers : (s s' : Shown) (call : Call) (a : Answer) → Accepted 𝓝 s call a s' → is_answer a ≡ true
  answers s s' opens a h = rw h.0
  answers s s' (branches handle) a h = rw h.0
  answers s s' (begins handle recorded) a h = rw h.0
  answers s s' (enters handle bytes measured change) a h = rw h.0
  answers s s' (commits handle) a h = rw h.0
  answers s s' (abandons handle) a h = rw h.0
  answers s s' (stows handle letter) a h = rw h.0
  answers s s' (fetches letter) a h = rw h.0
  answers s s' (retires handle) a h = rw h.0
  answers s s' tallies a h = rw h.0
  answers s s' (asks handle recorded question) a h = ap is_answer h.0 ∙ answer-is s question _

  pub step-refuses : (s : Shown) (t : Turn) → Step 𝓝 s t.call t.answer t.after → Refuses (declined 𝓝 s t.call) s t
  step-refuses s t = one (declined 𝓝 s t.call)
    where
      one : (o : Option Refusal) → Unless o t.answer s t.after (Accepted 𝓝 s t.call t.answer t.after) → Refuses o s t
      one None h = answers s t.after t.call t.answer h
      one (Some why) h = h

  -- ---- a turn of a run

  pub turn_at : (s : Shown) (turns front back : List Turn) (t : Turn) → turns ≡ front ++ t ∷ back → Follows 𝓝 s turns
      → Step 𝓝 (shown_after s front) t.call t.answer t.after
  turn_at s turns front back t e f = (follows-back 𝓝 s front (t ∷ back) (subst (Follows 𝓝 s) e f)).0
