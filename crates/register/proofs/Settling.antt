-- What was known of a line as of an instant that is not after its last stage stays known, of the line and of every line branched from it.
use Rattle.std.proofs.Common.{◌≡◌, ℕ, ◌<◌, Bool, true, false, cond, ◌&&◌, eqb, leb, List, [], ◌∷◌, ◌++◌, map, Some, None, Option, sym, refl, ap, ◌∙◌, subst, inl, inr, arith}
use Rattle.std.proofs.lemmas.Bool.{both_ways, eqb-true, le-leb, leb-true, ne_eqb}
use Rattle.std.specs.Option.{option_map_or}
use Rattle.std.specs.List.{AllByRecursion}
use Rattle.tree.specs.Lookup.{last_of, or_else}
use Rattle.register.proofs.Accepting.{Does}
use Rattle.register.proofs.Doing.{does}
use Rattle.register.proofs.Recounting.{Recounted, closed_is, told_same}
use Rattle.register.proofs.Retelling.{question-tells, recounted-step, tally-tells, told_at_lem}
use Rattle.register.proofs.Serials.{next-step}
use Rattle.register.proofs.Splitting.{by-step}
use Rattle.register.proofs.Staging.{known_kept}
use Rattle.register.specs.Answering.{Branched, is_settled}
use Rattle.register.specs.Calls.{Answer, Call, Handle, abandons, asks, begins, branches, commits, enters, fetches, handed, opens, refused, retires, stows, tallies}
use Rattle.register.specs.Contents.{Names}
use Rattle.register.specs.Histories.{Histories, Told, after_call, closed, told_from, with_told}
use Rattle.register.specs.History.{Entry, History, Stage, known_at}
use Rattle.register.specs.Turns.{Follows, Turn, call_with_answer}
use Rattle.register.specs.Places.{sitting}
use Rattle.register.specs.Shown.{Shown, next_handle}
use Rattle.register.specs.Steps.{Step}

differ : {A : Type 0} → ◌≡◌ {A = ℕ} 0 1 → A
differ e = absurd (omega (arith, e))

last-push : {A : Type 0} (xs : List A) (y : A) → last_of (xs ++ y ∷ []) ≡ Some y
last-push [] y = refl
last-push (x ∷ xs) y = rw (last-push xs y)

-- the instant is not after the stage
abbrev UpTo : ℕ → Option Stage → Type 0
UpTo r stage = option_map_or (λ (s : Stage). leb r s.recorded) stage false ≡ true

-- an instant after all stages is after one that is not after the last
settled_before : (r recorded : ℕ) (history : History) → is_settled r history ≡ true → AllByRecursion (λ (s : Stage). s.recorded < recorded) history → r < recorded
settled_before r recorded [] h a = absurd (both_ways _ refl h)
settled_before r recorded (s ∷ ss) h a = one (last_of ss) (λ l. settled_before r recorded ss l a.1) h
  where
    one : (o : Option Stage) → (UpTo r o → r < recorded) → UpTo r (or_else o (Some s)) → r < recorded
    one None rest l = omega (arith, leb-true r s.recorded l, a.0)
    one (Some stage) rest l = rest l

-- as of r this is known of the line, whose last stage is not before r
pub record Settled (r : ℕ) (known : List Entry) (line : Told) : Type 0 where
  pub known_is : known_at r line.stages ≡ known
  pub last : is_settled r line.stages ≡ true

settled-again : (r : ℕ) (known : List Entry) (line line' : Told) → line'.stages ≡ line.stages → Settled r known line → Settled r known line'
settled-again r known line line' e h =
    record { known_is = ap (known_at r) e ∙ h.known_is; last = ap (is_settled r) e ∙ h.last }

settled-more : (r : ℕ) (known : List Entry) (line line' : Told) (stage : Stage) → line'.stages ≡ line.stages ++ stage ∷ []
    → AllByRecursion (λ (s : Stage). s.recorded < stage.recorded) line.stages → Settled r known line → Settled r known line'
settled-more r known line line' stage e later h =
    let after : r < stage.recorded = settled_before r stage.recorded line.stages h.last later in
    let end : is_settled r (line.stages ++ stage ∷ []) ≡ true = subst (UpTo r) (sym (last-push line.stages stage)) (le-leb r stage.recorded (omega arith)) in
    record {
      known_is = ap (known_at r) e ∙ known_kept r line.stages stage after ∙ h.known_is;
      last = ap (is_settled r) e ∙ end;
    }

-- ---- one line of many

-- what the new line of a handle keeps is kept of every line
with-told : (P : Told → Type 0) (told : Histories) (handle : Handle) (line : Told) (g : Handle) → (P (told handle) → P line) → P (told g) → P (with_told told handle line g)
with-told P told handle line g keep p = one (eqb g.place handle.place) (eqb g.serial handle.serial) refl refl
  where
    one : (a b : Bool) → eqb g.place handle.place ≡ a → eqb g.serial handle.serial ≡ b → P (cond (a && b) line (told g))
    one true true e f =
        let same : g ≡ handle = (λ i. record { place = eqb-true _ _ e i; serial = eqb-true _ _ f i }) in
        keep (subst (λ (h : Handle). P (told h)) same p)
    one true false e f = p
    one false b e f = p

with-new : (P : Told → Type 0) (told : Histories) (handle : Handle) (line : Told) (g : Handle) → g.serial < handle.serial → P (told g) → P (with_told told handle line g)
with-new P told handle line g l p = one (eqb g.place handle.place)
  where
    one : (a : Bool) → P (cond (a && eqb g.serial handle.serial) line (told g))
    one true = rw (ne_eqb g.serial handle.serial (λ e. omega (arith, e, l))) p
    one false = p

-- ---- one step

module _ {K : Type 0} (𝓝 : Names K) (r : ℕ) (known : List Entry) where
  module _ (told : Histories) (s s' : Shown) (h : Recounted 𝓝 told s.places) (g : Handle) (old : g.serial < s.next) (p : Settled r known (told g)) where
    answered : (call : Call) (a b : Answer) → a ≡ b → Settled r known (after_call told call b g) → Settled r known (after_call told call a g)
    answered call a b e = subst (λ (z : Answer). Settled r known (after_call told call z g)) (sym e)

    settled-done : (call : Call) (a : Answer) → Does 𝓝 s s' call a → Settled r known (after_call told call a g)
    settled-done opens a c = answered opens a _ c.answer-is (with-new (Settled r known) told (next_handle s) _ g old p)
    settled-done (branches handle) a c = answered (branches handle) a _ c.started.answer-is (with-new (Settled r known) told (next_handle s) _ g old p)
    settled-done (begins handle recorded) a c =
        answered (begins handle recorded) a _ c.answer-is (with-told (Settled r known) told handle _ g (settled-again r known (told handle) _ refl) p)
    settled-done (enters handle bytes measured change) a c =
        answered (enters handle bytes measured change) a _ c.answer-is (with-told (Settled r known) told handle _ g (settled-again r known (told handle) _ refl) p)
    settled-done (commits handle) a c =
        let d = (told_at_lem 𝓝 told s.places handle c.before (sitting c.recorded c.sheet) c.changed.stood h).1 in
        let stage : Stage = d.stage in
        answered (commits handle) a _ c.answer-is
        (with-told (Settled r known) told handle (closed (told handle)) g
        (settled-more r known (told handle) (closed (told handle)) stage (ap (λ (z : Told). z.stages) (closed_is 𝓝 (told handle) stage d.is))
        (subst (λ (n : ℕ). AllByRecursion (λ (z : Stage). z.recorded < n) (told handle).stages) (sym d.recorded-is) d.later)) p)
    settled-done (abandons handle) a c =
        answered (abandons handle) a _ c.answer-is (with-told (Settled r known) told handle _ g (settled-again r known (told handle) _ refl) p)
    settled-done (stows handle letter) a c = answered (stows handle letter) a _ c.answer-is p
    settled-done (fetches letter) a c = answered (fetches letter) a _ c.answer-is p
    settled-done (retires handle) a c = answered (retires handle) a _ c.answer-is p
    settled-done tallies a c = subst (λ (z : Histories). Settled r known (z g)) (sym (tally-tells told a)) p
    settled-done (asks handle recorded q) a c = subst (λ (z : Histories). Settled r known (z g)) (sym (question-tells told handle recorded q a)) p

    pub settled-step : (call : Call) (a : Answer) → Step 𝓝 s call a s' → Settled r known (after_call told call a g)
    settled-step call a step =
        by-step 𝓝 s s' call a step (λ why d e same. answered call a (refused why) e p) (λ d c. settled-done call a (does 𝓝 s s' call a d c))

  -- the handle of a branched line is new
  branched-below : (s s' : Shown) (g new : Handle) → Step 𝓝 s (branches g) (handed new) s' → new.serial < s'.next
  branched-below s s' g new step =
      by-step 𝓝 s s' (branches g) (handed new) step (λ why d e same. differ (cc))
      (λ d c.
      let b = (does 𝓝 s s' (branches g) (handed new) d c).started in
      let answer : handed new ≡ handed (next_handle s) = b.answer-is in
      let same : new ≡ next_handle s = cc in
      omega (arith, ap (λ (z : Handle). z.serial) same, b.next_is))

  -- ---- a run

  pub settled-last : (told : Histories) (s : Shown) (turns : List Turn) (g h : Handle) → Recounted 𝓝 told s.places → Follows 𝓝 s turns → g.serial < s.next
      → Settled r known (told g) → Branched (map call_with_answer turns) g h → Settled r known (told_from told (map call_with_answer turns) h)
  settled-last told s [] g h rec f old p b = subst (λ (z : Handle). Settled r known (told z)) b p
  settled-last told s (t ∷ ts) g h rec f old p b =
      let told' : Histories = after_call told t.call t.answer in
      let after : Recounted 𝓝 told' t.after.places = recounted-step 𝓝 told s t.after rec t.call t.answer f.0 in
      one (λ k below q c. settled-last told' t.after ts k h after f.2 below q c) b
    where
      one : ((k : Handle) → k.serial < t.after.next → Settled r known (after_call told t.call t.answer k) → Branched (map call_with_answer ts) k h
          → Settled r known (told_from (after_call told t.call t.answer) (map call_with_answer ts) h))
          → Branched (map call_with_answer (t ∷ ts)) g h → Settled r known (told_from told (map call_with_answer (t ∷ ts)) h)
      one rest (inl c) =
          rest g (omega (arith, old, next-step 𝓝 s t.after t.call t.answer f.0)) (settled-step told s t.after rec g old p t.call t.answer f.0) c
      one rest (inr (new, call-is, answer-is, c)) =
          let step : Step 𝓝 s (branches g) (handed new) t.after =
          subst (λ (a : Answer). Step 𝓝 s (branches g) a t.after) answer-is (subst (λ (z : Call). Step 𝓝 s z t.answer t.after) call-is f.0) in
          let line : Told = record { stages = (told g).stages; sitting = None } in
          let copied : Settled r known (after_call told (branches g) (handed new) new) =
          subst (Settled r known) (sym (told_same told new line)) (settled-again r known (told g) line refl p) in
          rest new (branched-below s t.after g new step)
          (subst (λ (z : Call). Settled r known (after_call told z t.answer new)) (sym call-is)
          (subst (λ (a : Answer). Settled r known (after_call told (branches g) a new)) (sym answer-is) copied)) c
