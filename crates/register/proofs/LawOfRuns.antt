-- The law of whole runs: every run of turns that follow one another from a newly made register keeps it.
use Rattle.std.proofs.Common.{◌≡◌, ℕ, ◌<◌, true, false, List, ◌∷◌, ◌++◌, map, None, Option, sym, refl, ap, ◌∙◌, subst, arith}
use Rattle.kinds.specs.declared.name.Name.{Name}
use Rattle.tree.specs.Kind.{Kind}
use Rattle.pool.specs.declared.pool.Pool.{Pool}
use Rattle.register.proofs.Accepting.{resting-at, row-false, row-true}
use Rattle.register.proofs.Answerable.{answerable}
use Rattle.register.proofs.Bounding.{step-bounded, step-refuses, turn_at, turns-accounted}
use Rattle.register.proofs.DueByHistory.{due-declined}
use Rattle.register.proofs.Recounting.{Recounted}
use Rattle.register.proofs.Replying.{Replied, replied, step-answered}
use Rattle.register.proofs.Retelling.{new-recounted, recounted-last, recounted-step}
use Rattle.register.proofs.Returning.{all-given-back}
use Rattle.register.proofs.Serials.{Numbered, below_next, new-numbered, next-step, numbered_step}
use Rattle.register.proofs.Settling.{Settled, settled-last, settled-step}
use Rattle.register.proofs.Splitting.{Seen, by-step, follows-back, follows-front, kept-last, left-unchanged, shown-append, shown-last}
use Rattle.register.proofs.Staging.{sheet-as-of}
use Rattle.register.proofs.Timed.{names_of}
use Rattle.register.specs.Answering.{Branched, is_answer, is_settled}
use Rattle.register.specs.Asked.{sheet_after}
use Rattle.register.specs.Calls.{Answer, Call, Handle, Question, asks}
use Rattle.register.specs.Contents.{Names}
use Rattle.register.specs.Declined.{crossed, declined, misnamed}
use Rattle.register.specs.Histories.{Histories, after_call, nothing_told, told_from}
use Rattle.register.specs.History.{Entry, known_at}
use Rattle.register.specs.Law.{EveryRun, Law, Refuses}
use Rattle.register.specs.Turns.{Follows, LeavesNodes, Turn, call_with_answer, history_after, shown_after, told_after}
use Rattle.register.specs.Places.{is_resting}
use Rattle.register.specs.Shown.{Shown, at, newly_made}
use Rattle.register.specs.Steps.{Step, answer_to}
use Rattle.register.specs.declared.refusal.Refusal.{Refusal}

differ : {A : Type 0} → ◌≡◌ {A = ℕ} 0 1 → A
differ e = absurd (omega (arith, e))

module _ {K : Type 0} (𝓚 : Kind K) (named : Name → K) (called : K → Name) (back : (n : Name) → called (named n) ≡ n) where
  abbrev 𝓝 : Names K
  𝓝 = names_of 𝓚 named called

  -- the answer over what is known
  known-answer : (told : Histories) (s : Shown) (g : Handle) (r : ℕ) (q : Question) (a : Answer) → Replied 𝓝 told s g r q a
      → a ≡ answer_to 𝓝 s q (sheet_after 𝓝 (known_at r (told g).stages))
  known-answer told s g r q a p = p.answer-is ∙ ap (answer_to 𝓝 s q) (sheet-as-of 𝓝 r (told g).stages p.line.time)

  -- what an answered question is
  record Asked (told : Histories) (s : Shown) (g : Handle) (r : ℕ) (q : Question) (a : Answer) : Type 0 where
    replies : Replied 𝓝 told s g r q a
    straight : crossed q ≡ false
    old : g.serial < s.next

  asked : (told : Histories) (s s' : Shown) (g : Handle) (r : ℕ) (q : Question) (a : Answer) → Recounted 𝓝 told s.places → Numbered s
      → Step 𝓝 s (asks g r q) a s' → is_answer a ≡ true → Asked told s g r q a
  asked told s s' g r q a h n step is =
      by-step 𝓝 s s' (asks g r q) a step (λ why d e same. differ (let f : is_answer a ≡ false = ap is_answer e in cc))
      (λ d c.
      let (rests, rows) = row-true (is_resting (at s g)) _ _ d in
      let (stages, stood) = resting-at s.places g rests in
      let (rule, higher) = row-false (misnamed q) _ _ rows in
      let (high, last) = row-false _ _ _ higher in
      record { replies = replied 𝓝 told s s' g r q a h d c; straight = (row-false (crossed q) _ _ last).0; old = below_next 𝓝 s s g stages _ stood n })

  -- the question is answered again over the same entries
  again : (told told' : Histories) (s s' s'' : Shown) (g h : Handle) (r : ℕ) (q : Question) (a a' : Answer) → Asked told s g r q a
      → Recounted 𝓝 told' s'.places → Seen 𝓝 s' → Step 𝓝 s' (asks h r q) a' s'' → is_resting (at s' h) ≡ true
      → known_at r (told' h).stages ≡ known_at r (told g).stages → a' ≡ a
  again told told' s s' s'' g h r q a a' was rec seen step rests same =
      let none : declined 𝓝 s' (asks h r q) ≡ None = answerable 𝓚 named called s' seen h r q rests was.replies.rule was.straight in
      by-step 𝓝 s' s'' (asks h r q) a' step (λ why d e f. differ (cc))
      (λ d c.
      known-answer told' s' h r q a' (replied 𝓝 told' s' s'' h r q a' rec d c)
      ∙ ap (λ (known : List Entry). answer_to 𝓝 s' q (sheet_after 𝓝 known)) same
      ∙ sym (known-answer told s g r q a was.replies))

  module _ (made : Pool) (nodes first : ℕ) (turns : List Turn) (run : Follows 𝓝 (newly_made nodes first) turns) (leaves : LeavesNodes made turns) where
    abbrev start : Shown
    start = newly_made nodes first

    follows_by : (front behind : List Turn) → turns ≡ front ++ behind → Follows 𝓝 start (front ++ behind)
    follows_by front behind e = subst (Follows 𝓝 start) e run

    recounted-at : (front behind : List Turn) → turns ≡ front ++ behind → Recounted 𝓝 (told_after front) (shown_after start front).places
    recounted-at front behind e =
        recounted-last 𝓝 (λ h. nothing_told) start front (new-recounted 𝓝 (λ h. nothing_told) nodes first) (follows-front 𝓝 start front behind (follows_by front behind e))

    numbered-at : (front behind : List Turn) → turns ≡ front ++ behind → Numbered (shown_after start front)
    numbered-at front behind e =
        kept-last 𝓝 Numbered (numbered_step 𝓝) start front (new-numbered nodes first) (follows-front 𝓝 start front behind (follows_by front behind e))

    answers-fixed : (front between behind : List Turn) (t t' : Turn) → turns ≡ front ++ t ∷ (between ++ t' ∷ behind) → (g h : Handle) (r : ℕ) (q : Question)
        → t.call ≡ asks g r q → is_answer t.answer ≡ true → is_settled r (history_after front g) ≡ true
        → t'.call ≡ asks h r q → Branched (map call_with_answer between) g h → is_resting (at (shown_after start (front ++ t ∷ between)) h) ≡ true
        → t'.answer ≡ t.answer
    answers-fixed front between behind t t' e g h r q call-is is settled call'-is branched rests =
        let rest : List Turn = between ++ t' ∷ behind in
        let s : Shown = shown_after start front in
        let s' : Shown = shown_after t.after between in
        let told : Histories = told_after front in
        let told₁ : Histories = after_call told t.call t.answer in
        let told' : Histories = told_from told₁ (map call_with_answer between) in
        let f : Follows 𝓝 s (t ∷ rest) = follows-back 𝓝 start front (t ∷ rest) (follows_by front (t ∷ rest) e) in
        let rec = recounted-at front (t ∷ rest) e in
        let rec₁ = recounted-step 𝓝 told s t.after rec t.call t.answer f.0 in
        let between-follows = follows-front 𝓝 t.after between (t' ∷ behind) f.2 in
        let was = asked told s t.after g r q t.answer rec (numbered-at front (t ∷ rest) e) (subst (λ (c : Call). Step 𝓝 s c t.answer t.after) call-is f.0) is in
        let known : List Entry = known_at r (told g).stages in
        let one : Settled r known (told₁ g) = settled-step 𝓝 r known told s t.after rec g was.old (record { known_is = refl; last = settled }) t.call t.answer f.0 in
        let old : g.serial < t.after.next = omega (arith, was.old, next-step 𝓝 s t.after t.call t.answer f.0) in
        let end : Settled r known (told' h) = settled-last 𝓝 r known told₁ t.after between g h rec₁ between-follows old one branched in
        again told told' s s' t'.after g h r q t.answer t'.answer was
        (recounted-last 𝓝 told₁ t.after between rec₁ between-follows)
        (shown-last 𝓝 (Seen 𝓝) (λ z seen. seen) t.after between (t.pool, f.1) between-follows)
        (subst (λ (c : Call). Step 𝓝 s' c t'.answer t'.after) call'-is (follows-back 𝓝 t.after between (t' ∷ behind) f.2).0)
        (subst (λ (z : Shown). is_resting (at z h) ≡ true) (shown-append start front (t ∷ between)) rests)
        end.known_is

    law : Law 𝓝 made start turns
    law =
        record {
          accounted = turns-accounted 𝓝 start turns run;
          bounded = λ front behind t e. step-bounded 𝓝 (shown_after start front) t.after t.call t.answer (turn_at 𝓝 start turns front behind t e run);
          given_back = λ front behind e same. all-given-back 𝓝 nodes first turns front behind run e same;
          refusals = λ front behind t e.
              let s : Shown = shown_after start front in
              subst (λ (why : Option Refusal). Refuses why s t) (sym (due-declined 𝓚 named called back (told_after front) s (recounted-at front (t ∷ behind) e) t.call))
              (step-refuses 𝓝 s t (turn_at 𝓝 start turns front behind t e run));
          unchanged = λ front behind t e. left-unchanged made front behind t (subst (LeavesNodes made) e leaves);
          answered = λ front behind t e g r q call-is.
              let s : Shown = shown_after start front in
              step-answered 𝓚 named called back (told_after front) s t.after g r q t.answer (recounted-at front (t ∷ behind) e)
              (subst (λ (c : Call). Step 𝓝 s c t.answer t.after) call-is (turn_at 𝓝 start turns front behind t e run));
          fixed = answers-fixed;
        }

-- for every lawful order of names
pub law-of-runs : {K : Type 0} (𝓚 : Kind K) (named : Name → K) (called : K → Name) → ((n : Name) → called (named n) ≡ n) → EveryRun (names_of 𝓚 named called)
law-of-runs 𝓚 named called back made nodes first turns run leaves = law 𝓚 named called back made nodes first turns run leaves
