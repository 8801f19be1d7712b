-- Runs of calls: one after another, and what the answer of a step says of it.
use Rattle.std.proofs.Common.{◌≡◌, ℕ, Bool, true, false, List, [], ◌∷◌, ◌++◌, map, length, get_or, drop, Some, None, Option, sym, refl, ap, ◌∙◌, subst, arith}
use Rattle.std.proofs.lemmas.List.{map-append}
use Rattle.pool.specs.declared.pool.Pool.{Pool}
use Rattle.register.proofs.Splitting.{follows-append, kept-last, leaves-append, plainly, pool-append, shown-append}
use Rattle.register.specs.Answering.{leaves_nodes}
use Rattle.register.specs.Calls.{Answer, Call, abandons, as_of, asks, begins, branches, commits, counted, done, enters, fetches, found, handed, named, next_name, opens, refused, retires, stows, tallies, total, totalled}
use Rattle.register.specs.Contents.{Names}
use Rattle.register.specs.Declined.{declined}
use Rattle.register.specs.Turns.{Follows, LeavesNodes, Turn, call_with_answer, pool_after, shown_after}
use Rattle.register.specs.Runs.{Moment, Runs}
use Rattle.register.specs.Shown.{Shown, Shows}
use Rattle.register.specs.Steps.{Accepted, Step, Unless}
use Rattle.register.specs.declared.refusal.Refusal.{Refusal}
use Rattle.register.specs.declared.table.Record.{Record}

differ : {A : Type 0} → ◌≡◌ {A = ℕ} 0 1 → A
differ e = absurd (omega (arith, e))

abbrev pub is_refused : Answer → Bool
is_refused (refused why) = true
is_refused done = false
is_refused (handed handle) = false
is_refused (counted tally) = false
is_refused (found reading) = false
is_refused (totalled count sum) = false
is_refused (named name) = false

module _ {K : Type 0} (𝓝 : Names K) where
  pub runs_none : (m : Moment) → Runs 𝓝 m [] m
  runs_none m = record { turns = []; calls_are = refl; follows = tt; leaves = tt; ends = refl; last = refl }

  -- a call that is a step, to what a register with these records and this next serial shows, and then the others
  pub runs_more : (m n m' : Moment) (call : Call) (a : Answer) (calls : List (Call × Answer)) (ls : List (Option Record)) (next : ℕ)
      → Step 𝓝 m.shown call a n.shown → (leaves_nodes call a ≡ true → n.pool ≡ m.pool) → Shows 𝓝 n.pool ls next n.shown → Runs 𝓝 n calls m'
      → Runs 𝓝 m ((call, a) ∷ calls) m'
  runs_more m n m' call a calls ls next step left shows runs = record {
    turns = record { call = call; answer = a; pool = n.pool; after = n.shown } ∷ runs.turns;
    calls_are = ap (λ (cs : List (Call × Answer)). (call, a) ∷ cs) runs.calls_are;
    follows = (step, plainly 𝓝 n.pool ls next n.shown shows, runs.follows);
    leaves = (left, runs.leaves);
    ends = runs.ends;
    last = runs.last;
  }

  pub runs_one : (m n : Moment) (call : Call) (a : Answer) (ls : List (Option Record)) (next : ℕ)
      → Step 𝓝 m.shown call a n.shown → (leaves_nodes call a ≡ true → n.pool ≡ m.pool) → Shows 𝓝 n.pool ls next n.shown → Runs 𝓝 m ((call, a) ∷ []) n
  runs_one m n call a ls next step left shows = runs_more m n n call a [] ls next step left shows (runs_none n)

  pub runs_append : (m n m' : Moment) (calls more : List (Call × Answer)) → Runs 𝓝 m calls n → Runs 𝓝 n more m' → Runs 𝓝 m (calls ++ more) m'
  runs_append m n m' calls more first then =
      let behind : Follows 𝓝 (shown_after m.shown first.turns) then.turns = subst (λ (z : Shown). Follows 𝓝 z then.turns) (sym first.ends) then.follows in
      let left : LeavesNodes (pool_after m.pool first.turns) then.turns = subst (λ (z : Pool). LeavesNodes z then.turns) (sym first.last) then.leaves in
      record {
        turns = first.turns ++ then.turns;
        calls_are = map-append call_with_answer first.turns then.turns ∙ ap (λ (cs : List (Call × Answer)). cs ++ map call_with_answer then.turns) first.calls_are ∙ ap (λ (cs : List (Call × Answer)). calls ++ cs) then.calls_are;
        follows = follows-append 𝓝 m.shown first.turns then.turns first.follows behind;
        leaves = leaves-append m.pool first.turns then.turns first.leaves left;
        ends = shown-append m.shown first.turns then.turns ∙ ap (λ (z : Shown). shown_after z then.turns) first.ends ∙ then.ends;
        last = pool-append m.pool first.turns then.turns ∙ ap (λ (z : Pool). pool_after z then.turns) first.last ∙ then.last;
      }

  -- the first step of a run, and the run of the other calls; and past the last call the run is over
  pub runs_first : (m m' : Moment) (call : Call × Answer) (calls : List (Call × Answer)) → Runs 𝓝 m (call ∷ calls) m'
      → (n : Moment) × Step 𝓝 m.shown call.0 call.1 n.shown × Runs 𝓝 n calls m'
  runs_first m m' call calls runs = go runs.turns runs.calls_are runs.follows runs.leaves runs.ends runs.last
    where
      go : (turns : List Turn) → map call_with_answer turns ≡ call ∷ calls → Follows 𝓝 m.shown turns → LeavesNodes m.pool turns → shown_after m.shown turns ≡ m'.shown → pool_after m.pool turns ≡ m'.pool
          → (n : Moment) × Step 𝓝 m.shown call.0 call.1 n.shown × Runs 𝓝 n calls m'
      go [] e f l ends last = absurd (let z = ap length e in omega arith)
      go (t ∷ ts) e f l ends last = (
        record { pool = t.pool; shown = t.after },
        subst (λ (c : Call × Answer). Step 𝓝 m.shown c.0 c.1 t.after) (ap (λ (cs : List (Call × Answer)). get_or cs 0 call) e) f.0,
        record { turns = ts; calls_are = ap (drop 1) e; follows = f.2; leaves = l.1; ends = ends; last = last },
      )

  pub runs_over : (m m' : Moment) → Runs 𝓝 m [] m' → m.shown ≡ m'.shown
  runs_over m m' runs = go runs.turns runs.calls_are runs.ends
    where
      go : (turns : List Turn) → map call_with_answer turns ≡ [] → shown_after m.shown turns ≡ m'.shown → m.shown ≡ m'.shown
      go [] e ends = ends
      go (t ∷ ts) e ends = absurd (let z = ap length e in omega arith)

  -- what every step keeps is true at the end of a run
  pub runs_keep : (P : Shown → Type 0) → ((s s' : Shown) (call : Call) (a : Answer) → Step 𝓝 s call a s' → P s → P s')
      → (m m' : Moment) (calls : List (Call × Answer)) → Runs 𝓝 m calls m' → P m.shown → P m'.shown
  runs_keep P keep m m' calls runs here = subst P runs.ends (kept-last 𝓝 P keep m.shown runs.turns here runs.follows)

  module _ (s s' : Shown) where
    -- an accepted call is not refused
    not-refused : (call : Call) (why : Refusal) → Accepted 𝓝 s call (refused why) s' → ⊥
    not-refused opens why h = differ (let e = h.0 in cc)
    not-refused (branches handle) why h = differ (let e = h.0 in cc)
    not-refused (begins handle recorded) why h = differ (let e = h.0 in cc)
    not-refused (enters handle bytes measured change) why h = differ (let e = h.0 in cc)
    not-refused (commits handle) why h = differ (let e = h.0 in cc)
    not-refused (abandons handle) why h = differ (let e = h.0 in cc)
    not-refused (stows handle letter) why h = differ (let e = h.0 in cc)
    not-refused (fetches letter) why h = differ (let e = h.0 in cc)
    not-refused (retires handle) why h = differ (let e = h.0 in cc)
    not-refused tallies why h = differ (let e = h.0 in cc)
    not-refused (asks handle recorded (as_of name measured)) why h = differ (let e = h.0 in cc)
    not-refused (asks handle recorded (total name from to)) why h = differ (let e = h.0 in cc)
    not-refused (asks handle recorded (next_name given)) why h = differ (let e = h.0 in cc)

    -- a refused call changes nothing
    pub stayed : (call : Call) (why : Refusal) → Step 𝓝 s call (refused why) s' → s' ≡ s
    stayed call why step =
        elim (declined 𝓝 s call) as (λ o. Unless o (refused why) s s' (Accepted 𝓝 s call (refused why) s') → s' ≡ s) [
          | None ↦ (λ h. absurd (not-refused call why h))
          | Some w ↦ (λ h. h.1)
        ] step

    -- a call that no condition declines is not refused
    pub unrefused : (call : Call) (why : Refusal) → declined 𝓝 s call ≡ None → Step 𝓝 s call (refused why) s' → ⊥
    unrefused call why e step = not-refused call why (subst (λ (o : Option Refusal). Unless o (refused why) s s' (Accepted 𝓝 s call (refused why) s')) e step)

    -- a call that was not refused met no condition, and did what is accepted
    pub went : (call : Call) (a : Answer) → is_refused a ≡ false → Step 𝓝 s call a s' → (declined 𝓝 s call ≡ None) × Accepted 𝓝 s call a s'
    went call a plain step =
        elim (declined 𝓝 s call) as (λ o. declined 𝓝 s call ≡ o → Unless o a s s' (Accepted 𝓝 s call a s') → (declined 𝓝 s call ≡ None) × Accepted 𝓝 s call a s') [
          | None ↦ (λ e h. (e, h))
          | Some why ↦ (λ e h. refusing a why plain h.0)
        ] refl step
      where
        refusing : {A : Type 0} (a : Answer) (why : Refusal) → is_refused a ≡ false → a ≡ refused why → A
        refusing a why plain e = differ (let f : is_refused (refused why) ≡ false = subst (λ (z : Answer). is_refused z ≡ false) e plain in cc)
