-- Every answer as of a recorded instant is the model's, over the history of the line.
use Rattle.std.proofs.Common.{◌≡◌, ℕ, Bool, true, false, not, List, [], None, sym, refl, ap, ◌∙◌, subst, arith}
use Rattle.std.specs.List.{AllByRecursion}
use Rattle.kinds.specs.Name.{IsName}
use Rattle.kinds.specs.declared.name.Name.{Name}
use Rattle.tree.specs.Kind.{Kind}
use Rattle.pool.specs.Held.{Held}
use Rattle.register.proofs.Accepting.{resting-at, row-false, row-true}
use Rattle.register.proofs.Asking.{as-of-answer, next-answer, total-answer}
use Rattle.register.proofs.Naming.{name-decided}
use Rattle.register.proofs.Recounting.{LineTold, Recounted}
use Rattle.register.proofs.Retelling.{told_at_lem}
use Rattle.register.proofs.Splitting.{by-step}
use Rattle.register.proofs.Timed.{names_of}
use Rattle.register.specs.Answering.{Answers}
use Rattle.register.specs.Asked.{sheet_as_of, stages_from}
use Rattle.register.specs.Calls.{Answer, Handle, Question, as_of, asks, next_name, refused, total}
use Rattle.register.specs.Contents.{Names, Sheet, stages_of}
use Rattle.register.specs.Declined.{declined, misnamed}
use Rattle.register.specs.Histories.{Histories}
use Rattle.register.specs.History.{Entry, History, InTime, Stage, WellNamed, known_at}
use Rattle.register.specs.Places.{Place, is_resting, resting, stages_at}
use Rattle.register.specs.Rules.{is_name}
use Rattle.register.specs.Shown.{Shown, at}
use Rattle.register.specs.Steps.{Accepted, Step, answer_to}
use Rattle.register.specs.declared.refusal.Refusal.{Refusal}

-- a question that is answered is about a line at rest, and is answered over the line's history
pub record Replied {K : Type 0} (𝓝 : Names K) (told : Histories) (s : Shown) (g : Handle) (r : ℕ) (q : Question) (a : Answer) : Type 0 where
  pub stages : Held
  pub line : LineTold 𝓝 (told g) stages
  pub rule : misnamed q ≡ false
  pub answer-is : a ≡ answer_to 𝓝 s q (sheet_as_of r (stages_from 𝓝 [] (told g).stages))

pub replied : {K : Type 0} (𝓝 : Names K) (told : Histories) (s s' : Shown) (g : Handle) (r : ℕ) (q : Question) (a : Answer) → Recounted 𝓝 told s.places
    → declined 𝓝 s (asks g r q) ≡ None → Accepted 𝓝 s (asks g r q) a s' → Replied 𝓝 told s g r q a
replied {K} 𝓝 told s s' g r q a h d c =
    let (rests, rows) = row-true (is_resting (at s g)) _ _ d in
    let (stages, stood) = resting-at s.places g rests in
    let line = (told_at_lem 𝓝 told s.places g stages resting stood h).0 in
    record {
      stages = stages;
      line = line;
      rule = (row-false (misnamed q) _ _ rows).0;
      answer-is = c.0 ∙ ap (λ (x : Place). answer_to 𝓝 s q (sheet_as_of r (stages_of 𝓝 (stages_at x).tree))) stood.whole
          ∙ ap (λ (ss : List (ℕ × Sheet K)). answer_to 𝓝 s q (sheet_as_of r ss)) line.contents;
    }

-- a refusal is no answer
refused-any : {K : Type 0} (𝓝 : Names K) (known : List Entry) (q : Question) (why : Refusal) → Answers 𝓝 known q (refused why)
refused-any 𝓝 known (as_of name measured) why = tt
refused-any 𝓝 known (total name from to) why = tt
refused-any 𝓝 known (next_name given) why = tt

module _ {K : Type 0} (𝓚 : Kind K) (named : Name → K) (called : K → Name) (back : (n : Name) → called (named n) ≡ n) where
  abbrev 𝓝 : Names K
  𝓝 = names_of 𝓚 named called

  named-well : (name : List ℕ) → not (is_name name) ≡ false → IsName name
  named-well name e = (name-decided name).0 (one (is_name name) e)
    where
      one : (b : Bool) → not b ≡ false → b ≡ true
      one true e = refl
      one false e = absurd (let z : ◌≡◌ {A = ℕ} 0 1 = cc in omega arith)

  model-answers : (s : Shown) (r : ℕ) (history : History) → InTime history → AllByRecursion (λ (t : Stage). WellNamed t.entries) history
      → (q : Question) → misnamed q ≡ false → Answers 𝓝 (known_at r history) q (answer_to 𝓝 s q (sheet_as_of r (stages_from 𝓝 [] history)))
  model-answers s r history time rules (as_of name measured) rule = as-of-answer 𝓚 named called called back r history time rules name (named-well name rule) measured
  model-answers s r history time rules (total name from to) rule = total-answer 𝓚 named called called back r history time rules name (named-well name rule) from to
  model-answers s r history time rules (next_name given) rule = next-answer 𝓚 named called called back r history time rules given

  pub step-answered : (told : Histories) (s s' : Shown) (g : Handle) (r : ℕ) (q : Question) (a : Answer) → Recounted 𝓝 told s.places
      → Step 𝓝 s (asks g r q) a s' → Answers 𝓝 (known_at r (told g).stages) q a
  step-answered told s s' g r q a h step =
      by-step 𝓝 s s' (asks g r q) a step (λ why d e same. subst (Answers 𝓝 (known_at r (told g).stages) q) (sym e) (refused-any 𝓝 (known_at r (told g).stages) q why))
      (λ d c.
      let p = replied 𝓝 told s s' g r q a h d c in
      subst (Answers 𝓝 (known_at r (told g).stages) q) (sym p.answer-is) (model-answers s r (told g).stages p.line.time p.line.rules q p.rule))
