-- Every call keeps what is told of the lines true of their trees.
use Rattle.std.proofs.Common.{◌≡◌, ℕ, zero, suc, List, [], ◌∷◌, map, get_or, set, replicate, Some, None, sym, refl, ap, subst}
use Rattle.std.specs.Option.{option_map}
use Rattle.pool.specs.Held.{Held}
use Rattle.register.proofs.Accepting.{Does, Stands}
use Rattle.register.proofs.Doing.{does}
use Rattle.register.proofs.Naming.{name-decided}
use Rattle.register.proofs.Recounting.{DoingTold, LineTold, PlaceTold, Recounted, recounted-set, recounted-with, told-again, told-begun, told-committed, told-entered, told-nothing, told_at}
use Rattle.register.proofs.Splitting.{by-step}
use Rattle.register.specs.Calls.{Answer, Call, Handle, Question, abandons, asks, begins, branches, commits, counted, done, enters, fetches, found, handed, named, opens, refused, retires, stows, tallies, totalled}
use Rattle.register.specs.Contents.{Names}
use Rattle.register.specs.Histories.{Histories, Told, after_call, closed, nothing_told, told_from, with_entry}
use Rattle.register.specs.Turns.{Follows, Turn, call_with_answer, shown_after}
use Rattle.register.specs.Places.{Doing, Place, free, none, resting, sitting, stowed}
use Rattle.register.specs.Shown.{Shown, newly_made, next_handle}
use Rattle.register.specs.Steps.{Step, on_shelf}

-- ---- calls that tell nothing

pub tally-tells : (told : Histories) (a : Answer) → after_call told tallies a ≡ told
tally-tells told (refused why) = refl
tally-tells told done = refl
tally-tells told (handed new) = refl
tally-tells told (counted tally) = refl
tally-tells told (found reading) = refl
tally-tells told (totalled count sum) = refl
tally-tells told (named name) = refl

pub question-tells : (told : Histories) (handle : Handle) (recorded : ℕ) (q : Question) (a : Answer) → after_call told (asks handle recorded q) a ≡ told
question-tells told handle recorded q (refused why) = refl
question-tells told handle recorded q done = refl
question-tells told handle recorded q (handed new) = refl
question-tells told handle recorded q (counted tally) = refl
question-tells told handle recorded q (found reading) = refl
question-tells told handle recorded q (totalled count sum) = refl
question-tells told handle recorded q (named name) = refl

-- ---- what is told stays true

module _ {K : Type 0} (𝓝 : Names K) where
  free-there : (n i : ℕ) → get_or (replicate n free) i free ≡ free
  free-there zero i = refl
  free-there (suc n) zero = refl
  free-there (suc n) (suc i) = free-there n i

  pub new-recounted : (told : Histories) (nodes first : ℕ) → Recounted 𝓝 told (newly_made nodes first).places
  new-recounted told nodes first = λ i. all-free 64 i
    where
      all-free : (n i : ℕ) → PlaceTold 𝓝 (told_at 𝓝 told i) (get_or (replicate n free) i free)
      all-free n i = subst (PlaceTold 𝓝 (told_at 𝓝 told i)) (sym (free-there n i)) tt

  -- what is told of the line of a handle
  pub told_at_lem : (told : Histories) (xs : List Place) (handle : Handle) (stages : Held) (doing : Doing) → Stands xs handle stages doing → Recounted 𝓝 told xs
      → LineTold 𝓝 (told handle) stages × DoingTold 𝓝 (told handle) doing
  told_at_lem told xs handle stages doing c h = subst (PlaceTold 𝓝 (told_at 𝓝 told handle.place)) c.here (h handle.place)

  module _ (told : Histories) (s s' : Shown) (h : Recounted 𝓝 told s.places) where
    -- the answer, and the places after it, as they are
    moved : (call : Call) (a b : Answer) (xs : List Place) → a ≡ b → s'.places ≡ xs → Recounted 𝓝 (after_call told call b) xs
        → Recounted 𝓝 (after_call told call a) s'.places
    moved call a b xs e f r =
        subst (λ (z : Answer). Recounted 𝓝 (after_call told call z) s'.places) (sym e) (subst (Recounted 𝓝 (after_call told call b)) (sym f) r)

    -- a line of which nothing new is told
    still : (handle : Handle) (stages : Held) (doing : Doing) (after : Place) → Stands s.places handle stages doing
        → PlaceTold 𝓝 (told_at 𝓝 told handle.place) after → Recounted 𝓝 told (set s.places handle.place after)
    still handle stages doing after c p = recounted-set 𝓝 told told s.places handle.place after c.within (λ j ne n. refl) p h

    recounted-done : (call : Call) (a : Answer) → Does 𝓝 s s' call a → Recounted 𝓝 (after_call told call a) s'.places
    recounted-done opens a c =
        moved opens a _ _ c.answer-is c.places-are (recounted-with 𝓝 told s.places (next_handle s) nothing_told none resting c.within (told-nothing 𝓝) tt h)
    recounted-done (branches handle) a c =
        let l = (told_at_lem told s.places handle c.stages resting c.stood h).0 in
        let new : Told = record { stages = (told handle).stages; sitting = None } in
        moved (branches handle) a _ _ c.started.answer-is c.started.places-are
        (recounted-with 𝓝 told s.places (next_handle s) new c.stages resting c.started.within (told-again 𝓝 (told handle) new c.stages refl l) tt h)
    recounted-done (begins handle recorded) a c =
        let l = (told_at_lem told s.places handle c.stages resting c.changed.stood h).0 in
        let new : Told = record { stages = (told handle).stages; sitting = Some (record { recorded = recorded; entries = [] }) } in
        moved (begins handle recorded) a _ _ c.answer-is c.changed.places-are
        (recounted-with 𝓝 told s.places handle new c.stages (sitting recorded c.sheet) c.changed.stood.within
        (told-again 𝓝 (told handle) new c.stages refl l) (told-begun 𝓝 (told handle) c.stages c.sheet recorded c.last c.later l) h)
    recounted-done (enters handle bytes measured change) a c =
        let (l, d) = told_at_lem told s.places handle c.stages (sitting c.recorded c.before) c.changed.stood h in
        let new : Told = record { stages = (told handle).stages; sitting = option_map (with_entry (record { name = bytes; measured = measured; change = change })) (told handle).sitting } in
        moved (enters handle bytes measured change) a _ _ c.answer-is c.changed.places-are
        (recounted-with 𝓝 told s.places handle new c.stages (sitting c.recorded c.sheet) c.changed.stood.within
        (told-again 𝓝 (told handle) new c.stages refl l)
        (told-entered 𝓝 (told handle) c.before c.sheet c.recorded (record { name = bytes; measured = measured; change = change }) c.contents ((name-decided bytes).0 c.rule, tt) d) h)
    recounted-done (commits handle) a c =
        let (l, d) = told_at_lem told s.places handle c.before (sitting c.recorded c.sheet) c.changed.stood h in
        moved (commits handle) a _ _ c.answer-is c.changed.places-are
        (recounted-with 𝓝 told s.places handle (closed (told handle)) c.stages resting c.changed.stood.within
        (told-committed 𝓝 (told handle) c.before c.stages c.sheet c.recorded c.contents l d) tt h)
    recounted-done (abandons handle) a c =
        let l = (told_at_lem told s.places handle c.stages (sitting c.recorded c.sheet) c.changed.stood h).0 in
        let new : Told = record { stages = (told handle).stages; sitting = None } in
        moved (abandons handle) a _ _ c.answer-is c.changed.places-are
        (recounted-with 𝓝 told s.places handle new c.stages resting c.changed.stood.within (told-again 𝓝 (told handle) new c.stages refl l) tt h)
    recounted-done (stows handle letter) a c =
        let l = (told_at_lem told s.places handle c.stages resting c.changed.stood h).0 in
        moved (stows handle letter) a _ _ c.answer-is c.changed.places-are (still handle _ _ _ c.changed.stood (l, tt))
    recounted-done (fetches letter) a c =
        let l = (told_at_lem told s.places (on_shelf s letter) c.stages (stowed letter) c.changed.stood h).0 in
        moved (fetches letter) a _ _ c.answer-is c.changed.places-are (still (on_shelf s letter) _ _ _ c.changed.stood (l, tt))
    recounted-done (retires handle) a c = moved (retires handle) a _ _ c.answer-is c.changed.places-are (still handle _ _ _ c.changed.stood tt)
    recounted-done tallies a c =
        subst (λ (z : Shown). Recounted 𝓝 (after_call told tallies a) z.places) (sym c) (subst (λ (z : Histories). Recounted 𝓝 z s.places) (sym (tally-tells told a)) h)
    recounted-done (asks handle recorded q) a c =
        subst (λ (z : Shown). Recounted 𝓝 (after_call told (asks handle recorded q) a) z.places) (sym c)
        (subst (λ (z : Histories). Recounted 𝓝 z s.places) (sym (question-tells told handle recorded q a)) h)

    pub recounted-step : (call : Call) (a : Answer) → Step 𝓝 s call a s' → Recounted 𝓝 (after_call told call a) s'.places
    recounted-step call a step =
        by-step 𝓝 s s' call a step (λ why d e same. moved call a (refused why) s.places e (ap (λ (z : Shown). z.places) same) h)
        (λ d c. recounted-done call a (does 𝓝 s s' call a d c))

  -- at the end of a run
  pub recounted-last : (told : Histories) (s : Shown) (turns : List Turn) → Recounted 𝓝 told s.places → Follows 𝓝 s turns
      → Recounted 𝓝 (told_from told (map call_with_answer turns)) (shown_after s turns).places
  recounted-last told s [] h f = h
  recounted-last told s (t ∷ ts) h f =
      recounted-last (after_call told t.call t.answer) t.after ts (recounted-step told s t.after h t.call t.answer f.0) f.2
