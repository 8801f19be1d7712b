-- Turns that follow one another, split in two: what is shown at the split, and what a step comes to there.
use Rattle.std.proofs.Common.{◌≡◌, ℕ, true, List, [], ◌∷◌, ◌++◌, map, Some, None, Option, refl, subst}
use Rattle.pool.specs.declared.pool.Pool.{Pool}
use Rattle.register.specs.Answering.{leaves_nodes}
use Rattle.register.specs.Calls.{Answer, Call, refused}
use Rattle.register.specs.Contents.{Names}
use Rattle.register.specs.Declined.{declined}
use Rattle.register.specs.Turns.{Follows, LeavesNodes, Turn, pool_after, shown_after}
use Rattle.register.specs.Places.{record_of}
use Rattle.register.specs.Shown.{Shown, Shows}
use Rattle.register.specs.Steps.{Accepted, Step, Unless}
use Rattle.register.specs.declared.refusal.Refusal.{Refusal}
use Rattle.register.specs.declared.table.Record.{Record}

pub shown-append : (s : Shown) (front back : List Turn) → shown_after s (front ++ back) ≡ shown_after (shown_after s front) back
shown-append s [] back = refl
shown-append s (t ∷ ts) back = shown-append t.after ts back

pub pool-append : (p : Pool) (front back : List Turn) → pool_after p (front ++ back) ≡ pool_after (pool_after p front) back
pool-append p [] back = refl
pool-append p (t ∷ ts) back = pool-append t.pool ts back

pub leaves-append : (p : Pool) (front back : List Turn) → LeavesNodes p front → LeavesNodes (pool_after p front) back → LeavesNodes p (front ++ back)
leaves-append p [] back f g = g
leaves-append p (t ∷ ts) back f g = (f.0, leaves-append t.pool ts back f.1 g)

pub left-unchanged : (p : Pool) (front back : List Turn) (t : Turn) → LeavesNodes p (front ++ t ∷ back) → leaves_nodes t.call t.answer ≡ true → t.pool ≡ pool_after p front
left-unchanged p [] back t f = f.0
left-unchanged p (u ∷ front) back t f = left-unchanged u.pool front back t f.1

module _ {K : Type 0} (𝓝 : Names K) where
  -- some memory shows the state
  abbrev pub Seen : Shown → Type 0
  Seen s = (p : Pool) × Shows 𝓝 p (map record_of s.places) s.next s

  -- the same state, with the records and the serial that it says
  pub plainly : (p : Pool) (ls : List (Option Record)) (next : ℕ) (s : Shown) → Shows 𝓝 p ls next s → Shows 𝓝 p (map record_of s.places) s.next s
  plainly p ls next s shows =
      subst (λ (rs : List (Option Record)). Shows 𝓝 p rs s.next s) shows.kept.rows (subst (λ (n : ℕ). Shows 𝓝 p ls n s) shows.next_is shows)

  pub follows-append : (s : Shown) (front back : List Turn) → Follows 𝓝 s front → Follows 𝓝 (shown_after s front) back → Follows 𝓝 s (front ++ back)
  follows-append s [] back f g = g
  follows-append s (t ∷ ts) back f g = (f.0, f.1, follows-append t.after ts back f.2 g)

  pub follows-front : (s : Shown) (front back : List Turn) → Follows 𝓝 s (front ++ back) → Follows 𝓝 s front
  follows-front s [] back f = tt
  follows-front s (t ∷ ts) back f = (f.0, f.1, follows-front t.after ts back f.2)

  pub follows-back : (s : Shown) (front back : List Turn) → Follows 𝓝 s (front ++ back) → Follows 𝓝 (shown_after s front) back
  follows-back s [] back f = f
  follows-back s (t ∷ ts) back f = follows-back t.after ts back f.2

  -- the last pool shows the last state
  pub last-shown : (p : Pool) (s : Shown) (turns : List Turn) → Shows 𝓝 p (map record_of s.places) s.next s → Follows 𝓝 s turns
      → Shows 𝓝 (pool_after p turns) (map record_of (shown_after s turns).places) (shown_after s turns).next (shown_after s turns)
  last-shown p s [] shows f = shows
  last-shown p s (t ∷ ts) shows f = last-shown t.pool t.after ts f.1 f.2

  -- what is true at the start and of every state that a memory shows is true at the end
  pub shown-last : (P : Shown → Type 0) → ((s : Shown) → Seen s → P s) → (s : Shown) (turns : List Turn) → P s → Follows 𝓝 s turns → P (shown_after s turns)
  shown-last P seen s [] p f = p
  shown-last P seen s (t ∷ ts) p f = shown-last P seen t.after ts (seen t.after (t.pool, f.1)) f.2

  -- what every step keeps is true at the end
  pub kept-last : (P : Shown → Type 0) → ((s s' : Shown) (call : Call) (a : Answer) → Step 𝓝 s call a s' → P s → P s')
      → (s : Shown) (turns : List Turn) → P s → Follows 𝓝 s turns → P (shown_after s turns)
  kept-last P keep s [] p f = p
  kept-last P keep s (t ∷ ts) p f = kept-last P keep t.after ts (keep s t.after t.call t.answer f.0 p) f.2

  -- a step is declined, or does what its call does
  pub by-step : {P : Type 0} (s s' : Shown) (call : Call) (a : Answer) → Step 𝓝 s call a s'
      → ((why : Refusal) → declined 𝓝 s call ≡ Some why → a ≡ refused why → s' ≡ s → P)
      → (declined 𝓝 s call ≡ None → Accepted 𝓝 s call a s' → P) → P
  by-step {P} s s' call a step declines accepts = one (declined 𝓝 s call) refl step
    where
      one : (o : Option Refusal) → declined 𝓝 s call ≡ o → Unless o a s s' (Accepted 𝓝 s call a s') → P
      one None e h = accepts e h
      one (Some why) e h = declines why e h.0 h.1
