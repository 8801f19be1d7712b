-- Every live line has a serial below the next one, so that no handle is given twice.
use Rattle.std.proofs.Common.{ℕ, zero, suc, ◌+◌, ◌<◌, ◌≤◌, replicate, sym, ap, subst, arith}
use Rattle.std.proofs.ByRecursion.{All-get_or, All-set, All-weaker}
use Rattle.std.specs.List.{AllByRecursion}
use Rattle.pool.specs.Held.{Held}
use Rattle.register.proofs.Accepting.{Changed, Does, Stands, Started}
use Rattle.register.proofs.Doing.{does}
use Rattle.register.proofs.Splitting.{by-step}
use Rattle.register.specs.Calls.{Answer, Call, Handle, abandons, asks, begins, branches, commits, enters, fetches, opens, retires, stows, tallies}
use Rattle.register.specs.Contents.{Names}
use Rattle.register.specs.Places.{Doing, Place, free, live, none, resting}
use Rattle.register.specs.Shown.{Shown, newly_made, next_handle}
use Rattle.register.specs.Steps.{Step}

-- the line's serial is below this one
abbrev pub Below : ℕ → Place → Type 0
Below next free = Unit {0}
Below next (live n stages doing) = n < next

abbrev pub Numbered : Shown → Type 0
Numbered s = AllByRecursion (Below s.next) s.places

below-later : (next later : ℕ) → next ≤ later → (x : Place) → Below next x → Below later x
below-later next later l free h = tt
below-later next later l (live n stages doing) h = omega arith

pub new-numbered : (nodes first : ℕ) → Numbered (newly_made nodes first)
new-numbered nodes first = all-free 64
  where
    all-free : (n : ℕ) → AllByRecursion (Below first) (replicate n free)
    all-free zero = tt
    all-free (suc n) = (tt, all-free n)

module _ {K : Type 0} (𝓝 : Names K) where
  module _ (s s' : Shown) where
    -- the serial of a handle with a line
    pub below_next : (handle : Handle) (stages : Held) (doing : Doing) → Stands s.places handle stages doing → Numbered s → handle.serial < s.next
    below_next handle stages doing c n = subst (Below s.next) c.here (All-get_or (Below s.next) s.places handle.place free c.within n)

    numbered-changed : (handle : Handle) (stages : Held) (doing : Doing) (after : Place) → Changed 𝓝 s s' handle stages doing after
        → (handle.serial < s.next → Below s.next after) → Numbered s → Numbered s'
    numbered-changed handle stages doing after c below n =
        subst (λ (next : ℕ). AllByRecursion (Below next) s'.places) (sym c.next_is)
        (subst (AllByRecursion (Below s.next)) (sym c.places-are)
        (All-set (Below s.next) s.places handle.place after (below (below_next handle stages doing c.stood n)) n))

    numbered-started : (stages : Held) (a : Answer) → Started 𝓝 s s' stages a → Numbered s → Numbered s'
    numbered-started stages a c n =
        subst (λ (next : ℕ). AllByRecursion (Below next) s'.places) (sym c.next_is)
        (subst (AllByRecursion (Below (s.next + 1))) (sym c.places-are)
        (All-set (Below (s.next + 1)) s.places (next_handle s).place (live s.next stages resting) (omega arith)
        (All-weaker (Below s.next) (Below (s.next + 1)) (below-later s.next (s.next + 1) (omega arith)) s.places n)))

    numbered-done : (call : Call) (a : Answer) → Does 𝓝 s s' call a → Numbered s → Numbered s'
    numbered-done opens a h = numbered-started none a h
    numbered-done (branches handle) a h = numbered-started h.stages a h.started
    numbered-done (begins handle recorded) a h = numbered-changed handle _ _ _ h.changed (λ l. l)
    numbered-done (enters handle bytes measured change) a h = numbered-changed handle _ _ _ h.changed (λ l. l)
    numbered-done (commits handle) a h = numbered-changed handle _ _ _ h.changed (λ l. l)
    numbered-done (abandons handle) a h = numbered-changed handle _ _ _ h.changed (λ l. l)
    numbered-done (stows handle letter) a h = numbered-changed handle _ _ _ h.changed (λ l. l)
    numbered-done (fetches letter) a h = numbered-changed _ _ _ _ h.changed (λ l. l)
    numbered-done (retires handle) a h = numbered-changed handle _ _ _ h.changed (λ l. tt)
    numbered-done tallies a h = subst Numbered (sym h)
    numbered-done (asks handle recorded question) a h = subst Numbered (sym h)

    pub numbered_step : (call : Call) (a : Answer) → Step 𝓝 s call a s' → Numbered s → Numbered s'
    numbered_step call a step =
        by-step 𝓝 s s' call a step (λ why d e same. subst Numbered (sym same)) (λ d h. numbered-done call a (does 𝓝 s s' call a d h))

    next-done : (call : Call) (a : Answer) → Does 𝓝 s s' call a → s.next ≤ s'.next
    next-done opens a h = omega (arith, h.next_is)
    next-done (branches handle) a h = omega (arith, h.started.next_is)
    next-done (begins handle recorded) a h = omega (arith, h.changed.next_is)
    next-done (enters handle bytes measured change) a h = omega (arith, h.changed.next_is)
    next-done (commits handle) a h = omega (arith, h.changed.next_is)
    next-done (abandons handle) a h = omega (arith, h.changed.next_is)
    next-done (stows handle letter) a h = omega (arith, h.changed.next_is)
    next-done (fetches letter) a h = omega (arith, h.changed.next_is)
    next-done (retires handle) a h = omega (arith, h.changed.next_is)
    next-done tallies a h = omega (arith, ap (λ (z : Shown). z.next) h)
    next-done (asks handle recorded question) a h = omega (arith, ap (λ (z : Shown). z.next) h)

    -- the next serial never falls
    pub next-step : (call : Call) (a : Answer) → Step 𝓝 s call a s' → s.next ≤ s'.next
    next-step call a step =
        by-step 𝓝 s s' call a step (λ why d e same. omega (arith, ap (λ (z : Shown). z.next) same)) (λ d h. next-done call a (does 𝓝 s s' call a d h))
