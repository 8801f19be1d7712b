-- What the calls of a request come to: where a run stands after them, and which of them cannot be refused.
use Rattle.std.proofs.Common.{◌≡◌, ℕ, suc, ◌+◌, true, not, List, [], ◌∷◌, ℤ, is_some, Some, None, Ok, Err, Option, Result, sym, refl, ◌∙◌, subst, arith}
use Rattle.std.specs.Option.{option_map}
use Rattle.std.specs.Result.{IsOk}
use Rattle.kinds.specs.declared.name.Name.{Name}
use Rattle.register.proofs.Moves as moves
use Rattle.register.proofs.Runs.{runs_append, runs_first, runs_more, runs_none, runs_one, runs_over, stayed, unrefused}
use Rattle.register.proofs.Splitting.{plainly}
use Rattle.register.specs.Calls as call
use Rattle.register.specs.Calls.{Call, counted, done, done_answer, entry_answer, handed, line_handle, refused, sitting_handle}
use Rattle.register.specs.declared.handle.Parts.{Parts as Handle}
use Rattle.register.specs.Places.{is_resting}
use Rattle.register.specs.Registers.{Answers, ShownBy, Tells, pool_of}
use Rattle.register.specs.Shelves.{Bare, Single}
use Rattle.register.specs.Shown.{Shown, at}
use Rattle.register.specs.Steps.{Step}
use Rattle.register.specs.declared.entries.Change.{Change}
use Rattle.register.specs.declared.handle.Refused.{Refused}
use Rattle.register.specs.Calls.{Line}
use Rattle.register.specs.Calls.{Sitting}
use Rattle.register.specs.declared.questions.Tally.{Tally}
use Rattle.register.specs.declared.refusal.Refusal.{Refusal}
use Rattle.register.specs.declared.refusal.Refusal.TheVariants.{OutOfPlace}
use Rattle.register.specs.declared.register.Register.{Register}
use Rattle.script.specs.Answers.{answer_to}
use Rattle.script.specs.Commands.{Request, abandons, begins, commits, retires, tallies}
use Rattle.script.specs.Does.{Does, belongs_inside, entry_of}
use Rattle.script.specs.Does as does
use Rattle.script.specs.Runs.{Carried, Cleared, Clears, Ended, Left, Standing, clear, empty, forward, leaving}
use Rattle.script.specs.Standings.{AllLaid, Leads, MayLie, Ready, Resting, RunsBy, Seated, moment, seat_of, standing}
use Rattle.script.specs.Answers.{Answer}
use Rattle.script.specs.declared.answer.Reply.TheVariants.{Done, Counted}
use Rattle.script.specs.declared.sitting.OpenSitting.{OpenSitting}
use Rattle.script.proofs.Handing.{carried-laid, cleared-unused, runs-laid, single-runs}

-- ---- calls one after another

-- as RunsBy, with the calls known by the type
pub record Through (r : Register Name) (calls : List (Call × call.Answer)) (r' : Register Name) : Type 0 where
  pub leads : RunsBy r calls r'

pub last : (r r' : Register Name) (c : Call) (a : call.Answer) → Tells forward r c a r' → Through r ((c, a) ∷ []) r'
last r r' c a told =
    record {
      leads = λ s shows.
          let (s', shows', step) = told.step s shows in
          (s', shows', runs_one forward (moment r s) (moment r' s') c a r'.table.lines r'.next step told.unchanged shows');
    }

pub more : (r r₁ r' : Register Name) (c : Call) (a : call.Answer) (calls : List (Call × call.Answer)) → Tells forward r c a r₁ → Through r₁ calls r' → Through r ((c, a) ∷ calls) r'
more r r₁ r' c a calls told through =
    record {
      leads = λ s shows.
          let (s₁, shows₁, step) = told.step s shows in
          let (s', shows', runs) = through.leads s₁ shows₁ in
          (s', shows', runs_more forward (moment r s) (moment r₁ s₁) (moment r' s') c a calls r₁.table.lines r₁.next step told.unchanged shows₁ runs);
    }

-- two calls that were run by one function
pub both : (r r' : Register Name) (c d : Call × call.Answer) → RunsBy r (c ∷ d ∷ []) r' → Through r (c ∷ d ∷ []) r'
both r r' c d runs = record { leads = runs }

pub both-then : (r r₁ r' : Register Name) (c d : Call × call.Answer) (calls : List (Call × call.Answer)) → RunsBy r (c ∷ d ∷ []) r₁ → Through r₁ calls r' → Through r (c ∷ d ∷ calls) r'
both-then r r₁ r' c d calls runs through =
    record {
      leads = λ s shows.
          let (s₁, shows₁, first) = runs s shows in
          let (s', shows', then) = through.leads s₁ shows₁ in
          (s', shows', runs_append forward (moment r s) (moment r₁ s₁) (moment r' s') (c ∷ d ∷ []) calls first then);
    }

-- the same reason
pub why-of : (request : Request) (calls : List (Call × call.Answer)) (why given : Refusal) → why ≡ given → Does None request calls (Err given) None → Does None request calls (Err why) None
why-of request calls why given e does = subst (λ (z : Refusal). Does None request calls (Err z) None) (sym e) does

-- a request that leaves no sitting open
pub carried : (r r' : Register Name) (seat : Option OpenSitting) (request : Request) (calls : List (Call × call.Answer)) (answer : Answer)
    → Does (option_map seat_of seat) request calls answer None → Through r calls r' → Leads r seat r' None (λ s s'. Carried s request answer s')
carried r r' seat request calls answer does through s stands =
    let (s', shows, runs) = through.leads s stands.shows in
    let c : Carried (standing r s seat) request answer (standing r' s' None) = record { calls = calls; does = does; runs = runs } in
    (s', record { shows = shows; single = single-runs calls (moment r s) (moment r' s') runs stands.single; seated = tt; laid = carried-laid _ _ _ _ c stands.laid }, c)

-- a request that does not belong here
pub misplaced : (r : Register Name) (seat : Option OpenSitting) (request : Request) → belongs_inside request ≡ not (is_some (option_map seat_of seat))
    → Leads r seat r seat (λ s s'. Carried s request (Err OutOfPlace) s')
misplaced r seat request e s stands = (s, stands, record { calls = []; does = does.misplaced (option_map seat_of seat) request e; runs = runs_none forward (moment r s) })

pub tallied : (r : Register Name) (tally : Tally) → ((s : Shown) → ShownBy forward r s → Step forward s call.tallies (counted tally) s)
    → Leads r None r None (λ s s'. Carried s tallies (Ok (Counted tally)) s')
tallied r tally told = carried r r None tallies _ (Ok (Counted tally)) (does.tallied tally) (last r r call.tallies (counted tally) (record { step = λ s shows. (s, shows, told s shows); unchanged = λ _. refl }))

-- the same request and the same answer
pub answered-as : (r r' : Register Name) (seat seat' : Option OpenSitting) (request given : Request) (answer said : Answer) → request ≡ given → answer ≡ said
    → Leads r seat r' seat' (λ s s'. Carried s given said s') → Leads r seat r' seat' (λ s s'. Carried s request answer s')
answered-as r r' seat seat' request given answer said e f leads =
    subst (λ (q : Request). Leads r seat r' seat' (λ s s'. Carried s q answer s')) (sym e)
    (subst (λ (a : Answer). Leads r seat r' seat' (λ s s'. Carried s given a s')) (sym f) leads)

-- the same line, as a handle that a call gave back
pub told_of : (r r' : Register Name) (calls : Handle → Call) (a : call.Answer) (back line : Line) → back ≡ line
    → Tells forward r (calls (line_handle back)) a r' → Tells forward r (calls (line_handle line)) a r'
told_of r r' calls a back line e told = subst (λ (z : Line). Tells forward r (calls (line_handle z)) a r') e told

pub runs_of : (r r' : Register Name) (back line : Line) (shelf : ℕ) (c : Call × call.Answer) → back ≡ line
    → RunsBy r ((call.stows (line_handle back) shelf, done) ∷ c ∷ []) r' → RunsBy r ((call.stows (line_handle line) shelf, done) ∷ c ∷ []) r'
runs_of r r' back line shelf c e runs = subst (λ (z : Line). RunsBy r ((call.stows (line_handle z) shelf, done) ∷ c ∷ []) r') e runs

-- ---- which lines are at rest

pub opened-rests : (r r₁ : Register Name) (new : Handle) → Ready r None → Tells forward r call.opens (handed new) r₁ → Resting r₁ new
opened-rests r r₁ new (s, stands) told =
    let (s₁, shows, step) = told.step s stands.shows in
    (s₁, shows, (moves.opened forward s s₁ new step).rests)

pub rests-refused : (r r₁ : Register Name) (line : Handle) (c : Call) (why : Refusal) → Resting r line → Tells forward r c (refused why) r₁ → Resting r₁ line
rests-refused r r₁ line c why (s, shows, rests) told =
    let (s₁, shows₁, step) = told.step s shows in
    (s₁, shows₁, subst (λ (z : Shown). is_resting (at z line) ≡ true) (sym (stayed forward s s₁ c why step)) rests)

pub fetched-lies : (r r₁ : Register Name) (shelf : ℕ) (line : Handle) → Ready r None → Tells forward r (call.fetches shelf) (handed line) r₁ → MayLie r₁ line shelf
fetched-lies r r₁ shelf line (s, stands) told =
    let (s₁, shows, step) = told.step s stands.shows in
    let f = moves.fetched forward s s₁ shelf line stands.single step in
    record { s = s₁; shows = shows; rests = f.rests; letter = f.letter-is; bare = f.bare }

pub lies-resting : (r : Register Name) (line : Handle) (shelf : ℕ) → MayLie r line shelf → Resting r line
lies-resting r line shelf lies = (lies.s, lies.shows, lies.rests)

pub lies-refused : (r r₁ : Register Name) (line : Handle) (shelf : ℕ) (c : Call) (why : Refusal) → MayLie r line shelf → Tells forward r c (refused why) r₁ → MayLie r₁ line shelf
lies-refused r r₁ line shelf c why lies told =
    let (s₁, shows, step) = told.step lies.s lies.shows in
    let same = sym (stayed forward lies.s s₁ c why step) in
    record {
      s = s₁;
      shows = shows;
      rests = subst (λ (z : Shown). is_resting (at z line) ≡ true) same lies.rests;
      letter = lies.letter;
      bare = subst (λ (z : Shown). Bare z.places shelf) same lies.bare;
    }

pub lies-branched : (r r₁ : Register Name) (old new : Handle) (shelf : ℕ) → MayLie r old shelf → Tells forward r (call.branches old) (handed new) r₁ → MayLie r₁ old shelf
lies-branched r r₁ old new shelf lies told =
    let (s₁, shows, step) = told.step lies.s lies.shows in
    record {
      s = s₁;
      shows = shows;
      rests = (moves.branched forward lies.s s₁ old new step).stays old lies.rests;
      letter = lies.letter;
      bare = moves.bare-kept forward lies.s s₁ (call.branches old) (handed new) refl step shelf lies.bare;
    }

-- a question changes nothing
pub told-only : (r : Register Name) (c : Call) (a : call.Answer) → Answers forward r c a → Tells forward r c a r
told-only r c a told = record { step = λ s shows. (s, shows, told s shows); unchanged = λ _. refl }

-- the new line is at rest when the old one is back and its own stowing was refused
pub branched-rests : (r r₁ r₂ : Register Name) (old new : Handle) (from to : ℕ) (why : Refusal) → MayLie r old from → Tells forward r (call.branches old) (handed new) r₁
    → RunsBy r₁ ((call.stows old from, done) ∷ (call.stows new to, refused why) ∷ []) r₂ → Resting r₂ new
branched-rests r r₁ r₂ old new from to why lies told back =
    let (s₁, shows₁, step₁) = told.step lies.s lies.shows in
    let (s₂, shows₂, runs) = back s₁ shows₁ in
    let (t, step₂, rest) = runs_first forward (moment r₁ s₁) (moment r₂ s₂) (call.stows old from, done) ((call.stows new to, refused why) ∷ []) runs in
    let (u, step₃, over) = runs_first forward t (moment r₂ s₂) (call.stows new to, refused why) [] rest in
    let b = moves.branched forward lies.s s₁ old new step₁ in
    let rests = moves.stowed-apart forward s₁ t.shown old new from step₂ (b.apart old lies.rests) b.rests in
    (s₂, shows₂, subst (λ (z : Shown). is_resting (at z new) ≡ true) (sym (stayed forward t.shown u.shown (call.stows new to) why step₃) ∙ runs_over forward u (moment r₂ s₂) over) rests)

-- a line goes back on its bare shelf, whatever happens
pub not-unstowed : (r r₁ : Register Name) (line : Handle) (shelf : ℕ) (why : Refusal) → MayLie r line shelf → Tells forward r (call.stows line shelf) (refused why) r₁ → ⊥
not-unstowed r r₁ line shelf why lies told =
    let (s₁, shows, step) = told.step lies.s lies.shows in
    unrefused forward lies.s s₁ (call.stows line shelf) why (moves.stow-goes forward lies.s line shelf lies.rests lies.letter lies.bare) step

pub stows-back : (r r₁ : Register Name) (line : Handle) (shelf : ℕ) (result : Result (Unit {0}) (Refused Line)) → MayLie r line shelf
    → Tells forward r (call.stows line shelf) (done_answer result) r₁ → IsOk result
stows-back r r₁ line shelf (Ok value) lies told = refl
stows-back r r₁ line shelf (Err e) lies told = absurd (not-unstowed r r₁ line shelf e.why lies told)

-- ---- sittings

pub begun : (r r₁ r₂ : Register Name) (shelf recorded : ℕ) (line : Handle) (given : Sitting) → sitting_handle given ≡ line
    → Tells forward r (call.fetches shelf) (handed line) r₁ → Tells forward r₁ (call.begins line recorded) done r₂
    → Leads r None r₂ (Some (record { sitting = given; shelf = shelf })) (λ s s'. Carried s (begins shelf recorded) (Ok Done) s')
begun r r₁ r₂ shelf recorded line given same fetch begin s stands =
    let (s₁, shows₁, step₁) = fetch.step s stands.shows in
    let (s₂, shows₂, step₂) = begin.step s₁ shows₁ in
    let f = moves.fetched forward s s₁ shelf line stands.single step₁ in
    let single₁ = moves.single-kept forward s s₁ (call.fetches shelf) (handed line) step₁ stands.single in
    let seated : Seated s₂ (record { handle = line; shelf = shelf }) =
    record {
      sits = moves.begun forward s₁ s₂ line recorded f.rests step₂;
      letter = f.letter-is;
      bare = moves.bare-kept forward s₁ s₂ (call.begins line recorded) done refl step₂ shelf f.bare;
    } in
    let c : Carried (standing r s None) (begins shelf recorded) (Ok Done) (standing r₂ s₂ (Some (record { sitting = given; shelf = shelf }))) =
    record {
      calls = (call.fetches shelf, handed line) ∷ (call.begins line recorded, done) ∷ [];
      does =
          subst (λ (h : Handle). Does None (begins shelf recorded) ((call.fetches shelf, handed line) ∷ (call.begins line recorded, done) ∷ []) (Ok Done) (Some (record { handle = h; shelf = shelf }))) (sym same)
          (does.begun shelf recorded line);
      runs =
          runs_more forward (moment r s) (moment r₁ s₁) (moment r₂ s₂) (call.fetches shelf) (handed line) _ r₁.table.lines r₁.next step₁ fetch.unchanged shows₁
          (runs_one forward (moment r₁ s₁) (moment r₂ s₂) (call.begins line recorded) done r₂.table.lines r₂.next step₂ begin.unchanged shows₂);
    } in (
      s₂,
      record {
        shows = shows₂;
        single = moves.single-kept forward s₁ s₂ (call.begins line recorded) done step₂ single₁;
        seated = subst (λ (h : Handle). Seated s₂ (record { handle = h; shelf = shelf })) (sym same) seated;
        laid = carried-laid _ _ _ _ c stands.laid;
      },
      c,
    )

module _ (r r₁ : Register Name) (seat : OpenSitting) where
  abbrev handle : Handle
  handle = sitting_handle seat.sitting

  -- the same reading
  pub told-reading : (bytes : List ℕ) (measured : ℕ) (change : ℤ → Change) (a : call.Answer) (x y : ℤ) → x ≡ y
      → Tells forward r (call.enters handle bytes measured (change x)) a r₁ → Tells forward r (call.enters handle bytes measured (change y)) a r₁
  told-reading bytes measured change a x y e told = subst (λ (z : ℤ). Tells forward r (call.enters handle bytes measured (change z)) a r₁) e told

  -- an entry leaves the sitting open
  pub entered : (request : Request) (bytes : List ℕ) (measured : ℕ) (change : Change) (result : Result (Unit {0}) Refusal) (answer : Answer)
      → entry_of handle request ≡ Some (call.enters handle bytes measured change) → answer ≡ answer_to result
      → Tells forward r (call.enters handle bytes measured change) (entry_answer result) r₁
      → Leads r (Some seat) r₁ (Some seat) (λ s s'. Carried s request answer s')
  entered request bytes measured change (Ok value) answer e is told s stands =
      let entry = call.enters handle bytes measured change in
      let (s₁, shows, step) = told.step s stands.shows in
      let c : Carried (standing r s (Some seat)) request answer (standing r₁ s₁ (Some seat)) =
      record {
        calls = (entry, done) ∷ [];
        does = subst (λ (a : Answer). Does (Some (seat_of seat)) request ((entry, done) ∷ []) a (Some (seat_of seat))) (sym is) (does.entered (seat_of seat) request entry e);
        runs = runs_one forward (moment r s) (moment r₁ s₁) entry done r₁.table.lines r₁.next step told.unchanged shows;
      } in (
        s₁,
        record {
          shows = shows;
          single = moves.single-kept forward s s₁ entry done step stands.single;
          seated = record {
            sits = moves.still-sitting forward s s₁ handle bytes measured change stands.seated.sits step;
            letter = stands.seated.letter;
            bare = moves.bare-kept forward s s₁ entry done refl step seat.shelf stands.seated.bare;
          };
          laid = carried-laid _ _ _ _ c stands.laid;
        },
        c,
      )
  entered request bytes measured change (Err why) answer e is told s stands =
      let entry = call.enters handle bytes measured change in
      let (s₁, shows, step) = told.step s stands.shows in
      let same = sym (stayed forward s s₁ entry why step) in (
        s₁,
        record {
          shows = shows;
          single = subst (λ (z : Shown). Single z.places) same stands.single;
          seated = subst (λ (z : Shown). Seated z (seat_of seat)) same stands.seated;
          laid = subst (λ (z : Shown). AllLaid (standing r₁ z (Some seat))) same stands.laid;
        },
        record {
          calls = (entry, refused why) ∷ [];
          does = subst (λ (a : Answer). Does (Some (seat_of seat)) request ((entry, refused why) ∷ []) a (Some (seat_of seat))) (sym is) (does.entry_refused (seat_of seat) request entry why e);
          runs = runs_one forward (moment r s) (moment r₁ s₁) entry (refused why) r₁.table.lines r₁.next step told.unchanged shows;
        },
      )

  -- a refused commit leaves it open
  pub commit_refused : (given : Sitting) (why : Refusal) → given ≡ seat.sitting → Tells forward r (call.commits handle) (refused why) r₁
      → Leads r (Some seat) r₁ (Some (record { sitting = given; shelf = seat.shelf })) (λ s s'. Carried s commits (Err why) s')
  commit_refused given why back told =
      subst (λ (z : Sitting). Leads r (Some seat) r₁ (Some (record { sitting = z; shelf = seat.shelf })) (λ s s'. Carried s commits (Err why) s')) (sym back)
      (λ s stands.
      let (s₁, shows, step) = told.step s stands.shows in
      let same = sym (stayed forward s s₁ (call.commits handle) why step) in (
        s₁,
        record {
          shows = shows;
          single = subst (λ (z : Shown). Single z.places) same stands.single;
          seated = subst (λ (z : Shown). Seated z (seat_of seat)) same stands.seated;
          laid = subst (λ (z : Shown). AllLaid (standing r₁ z (Some seat))) same stands.laid;
        },
        record { calls = (call.commits handle, refused why) ∷ []; does = does.commit_refused (seat_of seat) why; runs = runs_one forward (moment r s) (moment r₁ s₁) (call.commits handle) (refused why) r₁.table.lines r₁.next step told.unchanged shows },
      ))

  -- after a commit and after giving up, the line may go back
  pub committed-lies : (line : Handle) → line ≡ handle → Ready r (Some seat) → Tells forward r (call.commits handle) done r₁ → MayLie r₁ line seat.shelf
  committed-lies line is (s, stands) told =
      let (s₁, shows, step) = told.step s stands.shows in
      subst (λ (h : Handle). MayLie r₁ h seat.shelf) (sym is)
      (record {
        s = s₁;
        shows = shows;
        rests = moves.committed-rests forward s s₁ handle stands.seated.sits step;
        letter = stands.seated.letter;
        bare = moves.bare-kept forward s s₁ (call.commits handle) done refl step seat.shelf stands.seated.bare;
      })

  pub abandoned-lies : (line : Handle) → line ≡ handle → Ready r (Some seat) → Tells forward r (call.abandons handle) done r₁ → MayLie r₁ line seat.shelf
  abandoned-lies line is (s, stands) told =
      let (s₁, shows, step) = told.step s stands.shows in
      subst (λ (h : Handle). MayLie r₁ h seat.shelf) (sym is)
      (record {
        s = s₁;
        shows = shows;
        rests = moves.abandoned-rests forward s s₁ handle stands.seated.sits step;
        letter = stands.seated.letter;
        bare = moves.bare-kept forward s s₁ (call.abandons handle) done refl step seat.shelf stands.seated.bare;
      })

  -- the sitting ends, and its line goes back
  module _ (r₂ : Register Name) (line : Handle) (is : line ≡ handle) (back : Tells forward r₁ (call.stows line seat.shelf) done r₂) where
    laid : Tells forward r₁ (call.stows handle seat.shelf) done r₂
    laid = subst (λ (h : Handle). Tells forward r₁ (call.stows h seat.shelf) done r₂) is back

    pub committed : Tells forward r (call.commits handle) done r₁ → Leads r (Some seat) r₂ None (λ s s'. Carried s commits (Ok Done) s')
    committed told =
        carried r r₂ (Some seat) commits _ (Ok Done) (does.committed (seat_of seat))
        (more r r₁ r₂ (call.commits handle) done _ told (last r₁ r₂ (call.stows handle seat.shelf) done laid))

    pub left : Tells forward r (call.abandons handle) done r₁ → Leads r (Some seat) r₂ None (λ s s'. Left s s'.now)
    left told s stands =
        let (s₂, shows₂, runs) = (more r r₁ r₂ (call.abandons handle) done _ told (last r₁ r₂ (call.stows handle seat.shelf) done laid)).leads s stands.shows in
        let laid = runs-laid (Some (seat_of seat)) None abandons (leaving (Some (seat_of seat))) (Ok Done) (moment r s) (moment r₂ s₂) (does.abandoned (seat_of seat)) runs stands.laid in
        (s₂, record { shows = shows₂; single = single-runs (leaving (Some (seat_of seat))) (moment r s) (moment r₂ s₂) runs stands.single; seated = tt; laid = laid }, runs)

-- abandoning is leaving
pub abandoned : (r r₁ : Register Name) (seat : OpenSitting) → Leads r (Some seat) r₁ None (λ s s'. Left s s'.now)
    → Leads r (Some seat) r₁ None (λ s s'. Carried s abandons (Ok Done) s')
abandoned r r₁ seat leads s stands =
    let (s₁, stands₁, runs) = leads s stands in
    (s₁, stands₁, record { calls = leaving (Some (seat_of seat)); does = does.abandoned (seat_of seat); runs = runs })

-- ---- clearing the shelves

clears : (shelf : ℕ) (calls : List (Call × call.Answer)) (answer : Answer) → Does None (retires shelf) calls answer None → Clears shelf calls
clears shelf calls answer (does.retire_unfetched _ why) = empty why
clears shelf calls answer (does.retired _ line) = clear line
clears shelf calls answer (does.misplaced _ _ e) = absurd (let z : ◌≡◌ {A = ℕ} 0 1 = cc in omega arith)

pub cleared_more : (r r₁ r₂ : Register Name) (n shelf : ℕ) (answer : Answer) → shelf ≡ 65 + n
    → Leads r None r₁ None (λ s s'. Cleared n s.now s'.now)
    → Leads r₁ None r₂ None (λ s s'. Carried s (retires shelf) answer s')
    → Leads r None r₂ None (λ s s'. Cleared (suc n) s.now s'.now)
unfolding Cleared
cleared_more r r₁ r₂ n shelf answer is before one s stands =
    let (s₁, stands₁, first) = before s stands in
    let (s₂, stands₂, then) = one s₁ stands₁ in
    (s₂, stands₂, (moment r₁ s₁, first, (then.calls, subst (λ (m : ℕ). Clears m then.calls) is (clears shelf then.calls answer then.does), then.runs)))

-- ---- the end of a run

abbrev leaves : Standing → Standing → Type 0
leaves s s' = Left s s'.now

pub left-none : (r r₁ : Register Name) (seat : Option OpenSitting) → seat ≡ None → r₁ ≡ r → Leads r seat r₁ None (λ s s'. Left s s'.now)
left-none r r₁ seat e f =
    subst (λ (z : Option OpenSitting). Leads r z r₁ None leaves) (sym e)
    (subst (λ (z : Register Name). Leads r None z None leaves) (sym f) (λ s stands. (s, stands, runs_none forward (moment r s))))

pub left-some : (r r₁ r₂ : Register Name) (seat : Option OpenSitting) (held : OpenSitting) → seat ≡ Some held → r₁ ≡ r₂
    → Leads r (Some held) r₂ None (λ s s'. Left s s'.now) → Leads r seat r₁ None (λ s s'. Left s s'.now)
left-some r r₁ r₂ seat held e f leads =
    subst (λ (z : Option OpenSitting). Leads r z r₁ None leaves) (sym e) (subst (λ (z : Register Name). Leads r (Some held) z None leaves) (sym f) leads)

pub ended : (r r₁ r₂ : Register Name) (seat : Option OpenSitting) → Leads r seat r₁ None (λ s s'. Left s s'.now)
    → Leads r₁ None r₂ None (λ s s'. Cleared 26 s.now s'.now) → Leads r seat r₂ None (λ s s'. Ended s'.now s s'.now.shown.used)
ended r r₁ r₂ seat leave clearing s stands =
    let (s₁, stands₁, gone) = leave s stands in
    let (s₂, stands₂, cleared) = clearing s₁ stands₁ in
    let free = cleared-unused (moment r₁ s₁) (moment r₂ s₂) stands₁.single cleared (pool_of r₂, plainly forward (pool_of r₂) r₂.table.lines r₂.next s₂ stands₂.shows) stands₂.laid in
    (s₂, stands₂, record { between = moment r₁ s₁; left = gone; cleared = cleared; used = refl; given_back = free })
