-- One write behind another: what two writes do together.
use Rattle.std.proofs.Common.{◌≡◌, ℕ, ◌≤◌, List, ◌++◌, length, take, IsErrAnd, Ok, Err, Result, sym, ap, ◌∙◌, append_assoc, arith, length-append}
use Rattle.std.proofs.lemmas.List.{length-take, take-take, take_at}
use Rattle.report.specs.Report.{KeepsRoom, capacity, held, text, used}
use Rattle.report.specs.Writing.{Added, Lacking, Writes}
use Rattle.report.specs.declared.report.Full.{Full}
use Rattle.report.specs.declared.report.Report.{Report}

-- a report's text is as long as it says
pub text-length : (r : Report) → length (text r) ≡ used r
text-length r = length-take (used r) (held r) ∙ (let h : used r ≤ capacity r = r.within in omega arith)

-- what two calls keep, one keeps after the other
pub same-then : {p q r : Report} → KeepsRoom p q → KeepsRoom q r → KeepsRoom p r
same-then a b = record { lent = b.lent ∙ a.lent; kept = b.kept ∙ a.kept }

pub added_then : {p q r : Report} {t u : List ℕ} → Added p t q → Added q u r → Added p (t ++ u) r
added_then {p} {q} {r} {t} {u} a b =
    record {
      same = same-then a.same b.same;
      grown = omega (arith, length-append t u);
      appended = b.appended ∙ ap (λ s. s ++ u) a.appended ∙ append_assoc (text p) t u;
    }

pub lacking-then : {p q r : Report} {t u : List ℕ} → Added p t q → Lacking q u r → Lacking p (t ++ u) r
lacking-then {p} {q} {r} {t} {u} a b =
    let within : used p ≤ used q = omega arith in
    let long = text-length p in
    record {
      same = same-then a.same b.same;
      full = omega (arith, length-append t u);
      stays = sym (take-take (used p) (used q) (held r) within) ∙ ap (take (used p)) (b.stays ∙ a.appended) ∙ take_at (text p) t (used p) long;
    }

pub writes_then : {p q : Report} {t : List ℕ} (u : List ℕ) (r : Report) (result : Result (Unit {0}) Full) → Added p t q → Writes q u result r → Writes p (t ++ u) result r
writes_then u r (Ok _) a b = added_then a b
writes_then u r (Err _) a b = lacking-then a b

-- The way out of a `?`: where a text has no room, no longer one has.
pub writes-refused : {p q : Report} {t : List ℕ} (u : List ℕ) (Q : Full → Type 0) (result : Result (Unit {0}) Full) → IsErrAnd result Q → length t ≤ length u → Lacking p t q → Writes p u result q
writes-refused u Q (Ok _) e le a = absurd e
writes-refused u Q (Err _) e le a = record { same = a.same; full = omega arith; stays = a.stays }
