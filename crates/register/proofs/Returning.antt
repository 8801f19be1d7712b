-- The live lines are those that were started and not ended; and where no line is live, all nodes are free.
use Rattle.std.proofs.Common.{◌≡◌, ℕ, zero, suc, ◌+◌, ◌*◌, ◌<◌, cond, List, [], ◌∷◌, ◌++◌, map, length, get_or, set, sym, refl, ap, ◌∙◌, subst, arith}
use Rattle.std.specs.List.{AllByRecursion}
use Rattle.pool.specs.Held.{Held, node_of}
use Rattle.register.proofs.Accepting.{Changed, Does, Started}
use Rattle.register.proofs.Bounding.{memory-accounted}
use Rattle.register.proofs.Doing.{does}
use Rattle.register.proofs.Splitting.{Seen, by-step, follows-front, shown-last}
use Rattle.register.specs.Calls.{Answer, Call, Handle, abandons, asks, begins, branches, commits, enters, fetches, opens, retires, stows, tallies}
use Rattle.register.specs.Contents.{Names}
use Rattle.register.specs.Turns.{Follows, Turn, ended, is_done, is_end, is_handed, is_start, shown_after, started}
use Rattle.register.specs.Places.{Doing, Place, free, is_free, live, live_in, none, owners_of, resting}
use Rattle.register.specs.Shown.{Shown, newly_made, next_handle}
use Rattle.register.specs.Steps.{Step}

-- 1 for a live line
abbrev lives : Place → ℕ
lives x = cond (is_free x) 0 1

live-set : (xs : List Place) (i : ℕ) (y : Place) → i < length xs → live_in (set xs i y) + lives (get_or xs i free) ≡ live_in xs + lives y
live-set [] i y h = absurd (omega arith)
live-set (x ∷ xs) zero y h = omega arith
live-set (x ∷ xs) (suc i) y h = omega (arith, live-set xs i y (omega arith))

-- without a live line no owner has a node
none-live : (xs : List Place) → live_in xs ≡ 0 → AllByRecursion (λ r. r ≡ 0) (map node_of (owners_of xs))
none-live [] e = tt
none-live (free ∷ xs) e = (refl, (refl, none-live xs (omega (arith, e))))
none-live (live n h d ∷ xs) e = absurd (omega (arith, e))

module _ {K : Type 0} (𝓝 : Names K) where
  -- ---- one step

  module _ (s s' : Shown) where
    pub live-changed : (handle : Handle) (stages : Held) (doing : Doing) (after : Place) → Changed 𝓝 s s' handle stages doing after
        → live_in s'.places + 1 ≡ live_in s.places + lives after
    live-changed handle stages doing after c =
        omega (arith, ap live_in c.places-are, live-set s.places handle.place after c.stood.within, ap lives c.stood.here)

    pub live-started : (stages : Held) (a : Answer) → Started 𝓝 s s' stages a → live_in s'.places ≡ live_in s.places + 1
    live-started stages a c =
        omega (arith, ap live_in c.places-are, live-set s.places (next_handle s).place (live s.next stages resting) c.within, ap lives c.here)

    live-done : (call : Call) (a : Answer) → Does 𝓝 s s' call a → live_in s'.places + is_end call * is_done a ≡ live_in s.places + is_start call * is_handed a
    live-done opens a h = rw h.answer-is (omega (arith, live-started none a h))
    live-done (branches handle) a h = rw h.started.answer-is (omega (arith, live-started h.stages a h.started))
    live-done (begins handle recorded) a h = omega (arith, live-changed handle _ _ _ h.changed)
    live-done (enters handle bytes measured change) a h = omega (arith, live-changed handle _ _ _ h.changed)
    live-done (commits handle) a h = omega (arith, live-changed handle _ _ _ h.changed)
    live-done (abandons handle) a h = omega (arith, live-changed handle _ _ _ h.changed)
    live-done (stows handle letter) a h = omega (arith, live-changed handle _ _ _ h.changed)
    live-done (fetches letter) a h = omega (arith, live-changed _ _ _ _ h.changed)
    live-done (retires handle) a h = rw h.answer-is (omega (arith, live-changed handle _ _ _ h.changed))
    live-done tallies a h = omega (arith, ap (λ (z : Shown). live_in z.places) h)
    live-done (asks handle recorded question) a h = omega (arith, ap (λ (z : Shown). live_in z.places) h)

    live-step : (call : Call) (a : Answer) → Step 𝓝 s call a s' → live_in s'.places + is_end call * is_done a ≡ live_in s.places + is_start call * is_handed a
    live-step call a step =
        by-step 𝓝 s s' call a step (λ why d e same. rw (e, same) (omega arith)) (λ d h. live-done call a (does 𝓝 s s' call a d h))

  -- ---- a run

  live-run : (s : Shown) (turns : List Turn) → Follows 𝓝 s turns → live_in (shown_after s turns).places + ended turns ≡ live_in s.places + started turns
  live-run s [] f = refl
  live-run s (t ∷ ts) f = omega (arith, live-step s t.after t.call t.answer f.0, live-run t.after ts f.2)

  -- where no line is live, no node is in use
  pub seen-free : (s : Shown) → Seen 𝓝 s → live_in s.places ≡ 0 → s.used ≡ 0
  seen-free s (p, shows) e =
      sym shows.used_is ∙ (memory-accounted p (owners_of s.places) shows.kept.holds).empty (none-live s.places e)

  pub all-given-back : (nodes first : ℕ) (turns front back : List Turn) → Follows 𝓝 (newly_made nodes first) turns → turns ≡ front ++ back
      → ended front ≡ started front → (shown_after (newly_made nodes first) front).used ≡ 0
  all-given-back nodes first turns front back f e same =
      let start : Shown = newly_made nodes first in
      let run : Follows 𝓝 start front = follows-front 𝓝 start front back (subst (Follows 𝓝 start) e f) in
      let empty : live_in start.places ≡ 0 = refl in
      shown-last 𝓝 (λ s. live_in s.places ≡ 0 → s.used ≡ 0) seen-free start front (λ z. refl) run (omega (arith, live-run start front run, empty))
