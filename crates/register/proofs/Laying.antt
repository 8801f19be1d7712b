-- How many of the live lines lie on shelves. A call leaves a line in its caller's hands, or takes one out of them, or neither; and where
-- every live line lies on a shelf and all shelves are bare, no node is in use.
use Rattle.std.proofs.Common.{◌≡◌, ℕ, zero, suc, ◌+◌, ◌*◌, ◌<◌, Bool, true, false, cond, List, [], ◌∷◌, map, get_or, set, length, None, refl, ap, ◌∙◌, arith}
use Rattle.std.proofs.lemmas.Bool.{eq-eqb}
use Rattle.pool.specs.Held.{Held}
use Rattle.register.proofs.Accepting.{Changed, Does, Started, row-true}
use Rattle.register.proofs.Doing.{does}
use Rattle.register.proofs.Returning.{live-changed, live-started, seen-free}
use Rattle.register.proofs.Splitting.{Seen, by-step}
use Rattle.register.specs.Calls.{Answer, Call, Handle, abandons, asks, begins, branches, commits, enters, fetches, opens, retires, stows, tallies}
use Rattle.register.specs.Contents.{Names}
use Rattle.register.specs.Declined.{declined}
use Rattle.register.specs.Turns.{Follows, Turn, call_with_answer, is_done, is_handed, shown_after}
use Rattle.register.specs.Places.{Doing, Place, free, is_resting, live, live_in, none, resting, sitting, stowed}
use Rattle.register.specs.Runs.{Moment, Runs}
use Rattle.register.specs.Shelves.{Bare, is_laid, laid_in}
use Rattle.register.specs.Shown.{Shown, at, next_handle}
use Rattle.register.specs.Steps.{Step, on_shelf}
use Rattle.register.specs.Tables.{is_letter}

-- 1 for a call that leaves a line in its caller's hands, and for one that takes a line out of them
abbrev pub is_taking : Call → ℕ
is_taking opens = 1
is_taking (branches handle) = 1
is_taking (begins handle recorded) = 0
is_taking (enters handle name measured change) = 0
is_taking (commits handle) = 0
is_taking (abandons handle) = 0
is_taking (stows handle letter) = 0
is_taking (fetches letter) = 1
is_taking (retires handle) = 0
is_taking tallies = 0
is_taking (asks handle recorded question) = 0

abbrev pub is_giving : Call → ℕ
is_giving opens = 0
is_giving (branches handle) = 0
is_giving (begins handle recorded) = 0
is_giving (enters handle name measured change) = 0
is_giving (commits handle) = 0
is_giving (abandons handle) = 0
is_giving (stows handle letter) = 1
is_giving (fetches letter) = 0
is_giving (retires handle) = 1
is_giving tallies = 0
is_giving (asks handle recorded question) = 0

-- the lines taken by calls with these answers, and the lines given
abbrev pub taken : List (Call × Answer) → ℕ
taken [] = 0
taken (c ∷ cs) = is_taking c.0 * is_handed c.1 + taken cs

abbrev pub given : List (Call × Answer) → ℕ
given [] = 0
given (c ∷ cs) = is_giving c.0 * is_done c.1 + given cs

-- 1 for a line on a shelf
abbrev lays : Place → ℕ
lays x = cond (is_laid x) 1 0

laid-set : (xs : List Place) (i : ℕ) (y : Place) → i < length xs → laid_in (set xs i y) + lays (get_or xs i free) ≡ laid_in xs + lays y
laid-set [] i y h = absurd (omega arith)
laid-set (x ∷ xs) zero y h = omega arith
laid-set (x ∷ xs) (suc i) y h = omega (arith, laid-set xs i y (omega arith))

on-letter : (letter serial : ℕ) (stages : Held) → is_letter letter ≡ true → lays (live serial stages (stowed letter)) ≡ 1
on-letter letter serial stages is = ap (λ (b : Bool). cond b 1 0) is

module _ {K : Type 0} (𝓝 : Names K) where
  module _ (s s' : Shown) where
    laid-changed : (handle : Handle) (stages : Held) (doing : Doing) (after : Place) → Changed 𝓝 s s' handle stages doing after
        → laid_in s'.places + lays (live handle.serial stages doing) ≡ laid_in s.places + lays after
    laid-changed handle stages doing after c =
        omega (arith, ap laid_in c.places-are, laid-set s.places handle.place after c.stood.within, ap lays c.stood.here)

    laid-started : (stages : Held) (a : Answer) → Started 𝓝 s s' stages a → laid_in s'.places ≡ laid_in s.places
    laid-started stages a c =
        omega (arith, ap laid_in c.places-are, laid-set s.places (next_handle s).place (live s.next stages resting) c.within, ap lays c.here)

    hands-done : (call : Call) (a : Answer) → declined 𝓝 s call ≡ None → Does 𝓝 s s' call a
        → live_in s'.places + laid_in s.places + is_giving call * is_done a ≡ live_in s.places + laid_in s'.places + is_taking call * is_handed a
    hands-done opens a d h = rw h.answer-is (omega (arith, live-started 𝓝 s s' none a h, laid-started none a h))
    hands-done (branches handle) a d h = rw h.started.answer-is (omega (arith, live-started 𝓝 s s' h.stages a h.started, laid-started h.stages a h.started))
    hands-done (begins handle recorded) a d h = omega (arith, live-changed 𝓝 s s' handle _ _ _ h.changed, laid-changed handle _ _ _ h.changed)
    hands-done (enters handle bytes measured change) a d h = omega (arith, live-changed 𝓝 s s' handle _ _ _ h.changed, laid-changed handle _ _ _ h.changed)
    hands-done (commits handle) a d h = omega (arith, live-changed 𝓝 s s' handle _ _ _ h.changed, laid-changed handle _ _ _ h.changed)
    hands-done (abandons handle) a d h = omega (arith, live-changed 𝓝 s s' handle _ _ _ h.changed, laid-changed handle _ _ _ h.changed)
    hands-done (stows handle letter) a d h =
        let (rests, rows) = row-true (is_resting (at s handle)) _ _ d in
        let letter-is = (row-true (is_letter letter) _ _ rows).0 in
        rw h.answer-is (omega (arith, live-changed 𝓝 s s' handle _ _ _ h.changed, laid-changed handle _ _ _ h.changed, on-letter letter handle.serial h.stages letter-is))
    hands-done (fetches letter) a d h =
        let letter-is = (row-true (is_letter letter) _ _ d).0 in
        rw h.answer-is (omega (arith, live-changed 𝓝 s s' _ _ _ _ h.changed, laid-changed _ _ _ _ h.changed, on-letter letter (on_shelf s letter).serial h.stages letter-is))
    hands-done (retires handle) a d h = rw h.answer-is (omega (arith, live-changed 𝓝 s s' handle _ _ _ h.changed, laid-changed handle _ _ _ h.changed))
    hands-done tallies a d h = omega (arith, ap (λ (z : Shown). live_in z.places) h, ap (λ (z : Shown). laid_in z.places) h)
    hands-done (asks handle recorded question) a d h = omega (arith, ap (λ (z : Shown). live_in z.places) h, ap (λ (z : Shown). laid_in z.places) h)

    hands-step : (call : Call) (a : Answer) → Step 𝓝 s call a s'
        → live_in s'.places + laid_in s.places + is_giving call * is_done a ≡ live_in s.places + laid_in s'.places + is_taking call * is_handed a
    hands-step call a step =
        by-step 𝓝 s s' call a step (λ why d e same. rw (e, same) (omega arith)) (λ d h. hands-done call a d (does 𝓝 s s' call a d h))

  hands-turns : (s : Shown) (turns : List Turn) → Follows 𝓝 s turns
      → live_in (shown_after s turns).places + laid_in s.places + given (map call_with_answer turns)
      ≡ live_in s.places + laid_in (shown_after s turns).places + taken (map call_with_answer turns)
  hands-turns s [] f = omega arith
  hands-turns s (t ∷ ts) f = omega (arith, hands-step s t.after t.call t.answer f.0, hands-turns t.after ts f.2)

  -- how many live lines lie on no shelf is told by the calls
  pub runs_hands : (m m' : Moment) (calls : List (Call × Answer)) → Runs 𝓝 m calls m'
      → live_in m'.shown.places + laid_in m.shown.places + given calls ≡ live_in m.shown.places + laid_in m'.shown.places + taken calls
  runs_hands m m' calls runs =
      omega (arith, hands-turns m.shown runs.turns runs.follows, ap given runs.calls_are, ap taken runs.calls_are, ap (λ (z : Shown). live_in z.places) runs.ends, ap (λ (z : Shown). laid_in z.places) runs.ends)

  -- every live line lies on a shelf, and all shelves are bare
  pub unused : (s : Shown) → Seen 𝓝 s → live_in s.places ≡ laid_in s.places → ((letter : ℕ) → is_letter letter ≡ true → Bare s.places letter) → s.used ≡ 0
  unused s seen all bare = seen-free 𝓝 s seen (all ∙ laid-none s.places bare)
    where
      laid-none : (xs : List Place) → ((letter : ℕ) → is_letter letter ≡ true → Bare xs letter) → laid_in xs ≡ 0
      laid-none [] empty = refl
      laid-none (free ∷ xs) empty = omega (arith, laid-none xs (λ letter is i. empty letter is (suc i)))
      laid-none (live n h resting ∷ xs) empty = omega (arith, laid-none xs (λ letter is i. empty letter is (suc i)))
      laid-none (live n h (sitting r g) ∷ xs) empty = omega (arith, laid-none xs (λ letter is i. empty letter is (suc i)))
      laid-none (live n h (stowed b) ∷ xs) empty =
          let rest = laid-none xs (λ letter is i. empty letter is (suc i)) in
          elim (is_letter b) as (λ t. is_letter b ≡ t → cond t 1 0 + laid_in xs ≡ 0) [
            | true ↦ (λ e. absurd (let z : ◌≡◌ {A = ℕ} 0 1 = (let t = eq-eqb b b refl in let f = empty b e 0 in cc) in omega arith))
            | false ↦ (λ e. omega (arith, rest))
          ] refl
