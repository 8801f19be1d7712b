-- A request leaves as many lines in the runner's hands as sittings are open, so all other live lines lie on shelves; and where the
-- shelves are cleared, all nodes are free.
use Rattle.std.proofs.Common.{◌≡◌, ℕ, zero, suc, ◌+◌, ◌-◌, ◌<◌, ◌≤◌, true, List, [], ◌∷◌, Some, None, Option, inl, inr, sym, refl, ap, ◌∙◌, subst, arith}
use Rattle.std.proofs.lemmas.Bool.{cases_eq}
use Rattle.std.proofs.lemmas.Bool.Decides.{nat_tests}
use Rattle.register.proofs.Laying.{given, is_giving, runs_hands, taken, unused}
use Rattle.register.proofs.Moves as moves
use Rattle.register.proofs.Runs.{runs_first, runs_keep, runs_over}
use Rattle.register.proofs.Splitting.{Seen}
use Rattle.register.specs.Calls as call
use Rattle.register.specs.Calls.{Call, done, handed, refused}
use Rattle.register.specs.declared.handle.Parts.{Parts as Handle}
use Rattle.register.specs.Places.{live_in}
use Rattle.register.specs.Runs.{Moment, Runs}
use Rattle.register.specs.Shelves.{Bare, Single, laid_in}
use Rattle.register.specs.Shown.{Shown}
use Rattle.register.specs.Tables.{is_letter}
use Rattle.script.specs.Answers.{Answer}
use Rattle.script.specs.Commands.{Request, opens, branches, begins, asks, retires, tallies, records, corrects, withdraws, commits, abandons}
use Rattle.script.specs.Does.{Does, Seat, entry_of}
use Rattle.script.specs.Does as does
use Rattle.script.specs.Runs.{Carried, Cleared, Clears, Standing, clear, empty, forward}
use Rattle.script.specs.Standings.{AllLaid, seats}

-- ---- what a request takes and gives

abbrev gives : Option Call → ℕ
gives None = 0
gives (Some c) = is_giving c

entry-gives : (handle : Handle) (request : Request) → gives (entry_of handle request) ≡ 0
entry-gives handle (opens shelf) = refl
entry-gives handle (branches from to) = refl
entry-gives handle (begins shelf recorded) = refl
entry-gives handle (asks shelf recorded question) = refl
entry-gives handle (retires shelf) = refl
entry-gives handle tallies = refl
entry-gives handle (records name measured reading) = refl
entry-gives handle (corrects name measured reading) = refl
entry-gives handle (withdraws name measured) = refl
entry-gives handle commits = refl
entry-gives handle abandons = refl

entry-keeps : (handle : Handle) (request : Request) (entry : Call) → entry_of handle request ≡ Some entry → is_giving entry ≡ 0
entry-keeps handle request entry e = sym (ap gives e) ∙ entry-gives handle request

balance : (seat seat' : Option Seat) (request : Request) (calls : List (Call × call.Answer)) (answer : Answer) → Does seat request calls answer seat'
    → taken calls + seats seat ≡ given calls + seats seat'
balance seat _ _ _ _ (does.misplaced _ request e) = refl
balance _ _ _ _ _ (does.open_refused shelf why) = refl
balance _ _ _ _ _ (does.open_stowed shelf new) = refl
balance _ _ _ _ _ (does.open_retired shelf new why) = refl
balance _ _ _ _ _ (does.branch_unfetched from to why) = refl
balance _ _ _ _ _ (does.branch_refused from to old why) = refl
balance _ _ _ _ _ (does.branch_stowed from to old new) = refl
balance _ _ _ _ _ (does.branch_retired from to old new why) = refl
balance _ _ _ _ _ (does.begin_unfetched shelf recorded why) = refl
balance _ _ _ _ _ (does.begin_refused shelf recorded line why) = refl
balance _ _ _ _ _ (does.begun shelf recorded line) = refl
balance _ _ _ _ _ (does.ask_unfetched shelf recorded question why) = refl
balance _ _ _ _ _ (does.asked shelf recorded question line a answer says) = omega arith
balance _ _ _ _ _ (does.retire_unfetched shelf why) = refl
balance _ _ _ _ _ (does.retired shelf line) = refl
balance _ _ _ _ _ (does.tallied tally) = refl
balance _ _ _ _ _ (does.entered seat request entry e) = omega (arith, entry-keeps seat.handle request entry e)
balance _ _ _ _ _ (does.entry_refused seat request entry why e) = omega arith
balance _ _ _ _ _ (does.committed seat) = refl
balance _ _ _ _ _ (does.commit_refused seat why) = refl
balance _ _ _ _ _ (does.abandoned seat) = refl

pub runs-laid : (seat seat' : Option Seat) (request : Request) (calls : List (Call × call.Answer)) (answer : Answer) (m m' : Moment) → Does seat request calls answer seat'
    → Runs forward m calls m' → live_in m.shown.places ≡ laid_in m.shown.places + seats seat → live_in m'.shown.places ≡ laid_in m'.shown.places + seats seat'
runs-laid seat seat' request calls answer m m' does runs laid = omega (arith, balance seat seat' request calls answer does, runs_hands forward m m' calls runs, laid)

pub carried-laid : (s s' : Standing) (request : Request) (answer : Answer) → Carried s request answer s' → AllLaid s → AllLaid s'
carried-laid s s' request answer c laid = runs-laid s.seat s'.seat request c.calls answer s.now s'.now c.does c.runs laid

-- ---- clearing the shelves

pub single-runs : (calls : List (Call × call.Answer)) (m m' : Moment) → Runs forward m calls m' → Single m.shown.places → Single m'.shown.places
single-runs calls m m' runs single = runs_keep forward (λ t. Single t.places) (moves.single-kept forward) m m' calls runs single

-- a bare shelf stays bare while another is cleared, and the one that is cleared is bare then
module _ (shelf : ℕ) (m m' : Moment) where
  bare-kept : (calls : List (Call × call.Answer)) → Clears shelf calls → Runs forward m calls m' → (letter : ℕ) → Bare m.shown.places letter → Bare m'.shown.places letter
  bare-kept _ (clear line) runs letter bare =
      let (t, step₁, rest) = runs_first forward m m' (call.fetches shelf, handed line) ((call.retires line, done) ∷ []) runs in
      let (u, step₂, over) = runs_first forward t m' (call.retires line, done) [] rest in
      subst (λ (z : Shown). Bare z.places letter) (runs_over forward u m' over)
      (moves.bare-kept forward t.shown u.shown (call.retires line) done refl step₂ letter (moves.bare-kept forward m.shown t.shown (call.fetches shelf) (handed line) refl step₁ letter bare))
  bare-kept _ (empty why) runs letter bare =
      let (t, step, over) = runs_first forward m m' (call.fetches shelf, refused why) [] runs in
      subst (λ (z : Shown). Bare z.places letter) (runs_over forward t m' over) (moves.bare-kept forward m.shown t.shown (call.fetches shelf) (refused why) refl step letter bare)

  bare-then : (calls : List (Call × call.Answer)) → Clears shelf calls → Runs forward m calls m' → is_letter shelf ≡ true → Single m.shown.places → Bare m'.shown.places shelf
  bare-then _ (clear line) runs is single =
      let (t, step₁, rest) = runs_first forward m m' (call.fetches shelf, handed line) ((call.retires line, done) ∷ []) runs in
      let (u, step₂, over) = runs_first forward t m' (call.retires line, done) [] rest in
      subst (λ (z : Shown). Bare z.places shelf) (runs_over forward u m' over)
      (moves.bare-kept forward t.shown u.shown (call.retires line) done refl step₂ shelf (moves.fetched forward m.shown t.shown shelf line single step₁).bare)
  bare-then _ (empty why) runs is single =
      let (t, step, over) = runs_first forward m m' (call.fetches shelf, refused why) [] runs in
      subst (λ (z : Shown). Bare z.places shelf) (runs_over forward t m' over) (moves.unfetched forward m.shown t.shown shelf why is step)

letter-is : (k : ℕ) → k < 26 → is_letter (65 + k) ≡ true
letter-is k h = grind (arith, nat_tests)

letter-from : (letter : ℕ) → is_letter letter ≡ true → (65 ≤ letter) × (letter ≤ 90)
letter-from letter is = (grind (arith, nat_tests), grind (arith, nat_tests))

-- the first shelves are bare once they are cleared
all-bare : (n : ℕ) (m m' : Moment) → n ≤ 26 → Single m.shown.places → Cleared n m m' → Single m'.shown.places × ((k : ℕ) → k < n → Bare m'.shown.places (65 + k))
unfolding Cleared
all-bare zero m m' few single e = (subst (λ (z : Moment). Single z.shown.places) e single, λ k h. absurd (omega arith))
all-bare (suc n) m m' few single (t, cleared, (calls, clears, runs)) =
    let (single_t, bare) = all-bare n m t (omega arith) single cleared in (
      single-runs calls t m' runs single_t,
      λ k h.
          elim (cases_eq k n) [
            | inl e ↦ subst (λ (i : ℕ). Bare m'.shown.places (65 + i)) (sym e) (bare-then (65 + n) t m' calls clears runs (letter-is n (omega arith)) single_t)
            | inr apart ↦ bare-kept (65 + n) t m' calls clears runs (65 + k) (bare k (omega arith))
          ],
    )

pub cleared-unused : (m m' : Moment) → Single m.shown.places → Cleared 26 m m' → Seen forward m'.shown → live_in m'.shown.places ≡ laid_in m'.shown.places + 0 → m'.shown.used ≡ 0
cleared-unused m m' single cleared seen laid =
    let (single', bare) = all-bare 26 m m' (omega arith) single cleared in
    unused forward m'.shown seen (omega (arith, laid))
    (λ letter is.
    let (from, to) = letter-from letter is in
    let same : 65 + (letter - 65) ≡ letter = omega (arith, from) in
    subst (Bare m'.shown.places) same (bare (letter - 65) (omega (arith, from, to))))
