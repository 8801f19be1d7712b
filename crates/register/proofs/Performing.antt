-- A run of calls so far: the turns that it took, and what the register shows now.
use Rattle.std.proofs.Common.{◌≡◌, ℕ, ◌+◌, ◌<◌, List, [], ◌∷◌, ◌++◌, map, length, true, get_or, take, drop, set, sym, refl, ap, ◌∙◌, subst, arith, Option}
use Rattle.std.proofs.lemmas.List.{drop-drop, drop-set-lt, map-append, take_more, take_more_set}
use Rattle.kinds.specs.declared.name.Name.{Name}
use Rattle.pool.specs.Sound.{memory_of}
use Rattle.pool.specs.declared.node.Node.{Node}
use Rattle.pool.specs.declared.pool.Pool.{Pool}
use Rattle.register.proofs.Bounding.{memory-accounted}
use Rattle.register.proofs.Memory.{loan-then}
use Rattle.tree.specs.Kind.{Kind}
use Rattle.register.proofs.LawOfRuns.{law-of-runs}
use Rattle.register.proofs.Splitting.{follows-append, last-shown, leaves-append, plainly, pool-append, shown-append}
use Rattle.register.proofs.Timed.{names_of}
use Rattle.register.specs.Answering.{leaves_nodes}
use Rattle.register.specs.Calls.{Answer, Call}
use Rattle.register.specs.Contents.{Names}
use Rattle.register.specs.Law.{Ran}
use Rattle.register.specs.Turns.{Follows, LeavesNodes, Turn, pool_after, shown_after}
use Rattle.register.specs.Plain.{CodeAnswer, answer_of, call_of}
use Rattle.register.specs.Registers.{SameLoan, ShownBy, Tells, pool_of}
use Rattle.register.specs.Shown.{Shown, Shows, newly_made}
use Rattle.register.specs.Steps.{Step}
use Rattle.register.specs.declared.register.Register.{Register}
use Rattle.register.specs.declared.run.Call.{Call as CodeCall}
use Rattle.register.specs.declared.table.Record.{Record}

module _ {K : Type 0} (𝓝 : Names K) where
  pub record Sofar (start : Shown) (made : Pool) (calls : List Call) (answers : List Answer) (pool : Pool) (lines : List (Option Record)) (next : ℕ) : Type 0 where
    pub turns : List Turn
    pub calls_are : map (λ (t : Turn). t.call) turns ≡ calls
    pub answers_are : map (λ (t : Turn). t.answer) turns ≡ answers
    pub follows : Follows 𝓝 start turns
    pub leaves : LeavesNodes made turns
    pub shows : Shows 𝓝 pool lines next (shown_after start turns)
    pub last : pool_after made turns ≡ pool

  pub none_yet : (start : Shown) (p : Pool) (ls : List (Option Record)) (next : ℕ) → Shows 𝓝 p ls next start → Sofar start p [] [] p ls next
  none_yet start p ls next shows = record { turns = []; calls_are = refl; answers_are = refl; follows = tt; leaves = tt; shows = shows; last = refl }

  pub one_more : (start : Shown) (made : Pool) (calls : List Call) (answers : List Answer) (p : Pool) (ls : List (Option Record)) (next : ℕ) → Sofar start made calls answers p ls next
      → (call : Call) (a : Answer) (p' : Pool) (ls' : List (Option Record)) (next' : ℕ)
      → ((s : Shown) → Shows 𝓝 p ls next s → (s' : Shown) × Shows 𝓝 p' ls' next' s' × Step 𝓝 s call a s') → (leaves_nodes call a ≡ true → p' ≡ p)
      → Sofar start made (calls ++ call ∷ []) (answers ++ a ∷ []) p' ls' next'
  one_more start made calls answers p ls next so call a p' ls' next' told left =
      let (s', shows', step) = told (shown_after start so.turns) so.shows in
      let t : Turn = record { call = call; answer = a; pool = p'; after = s' } in
      record {
        turns = so.turns ++ t ∷ [];
        calls_are = map-append (λ (u : Turn). u.call) so.turns (t ∷ []) ∙ ap (λ (made : List Call). made ++ call ∷ []) so.calls_are;
        answers_are = map-append (λ (u : Turn). u.answer) so.turns (t ∷ []) ∙ ap (λ (given : List Answer). given ++ a ∷ []) so.answers_are;
        follows = follows-append 𝓝 start so.turns (t ∷ []) so.follows (step, plainly 𝓝 p' ls' next' s' shows', tt);
        leaves = leaves-append made so.turns (t ∷ []) so.leaves ((λ is. left is ∙ sym so.last), tt);
        shows = subst (Shows 𝓝 p' ls' next') (sym (shown-append start so.turns (t ∷ []))) shows';
        last = pool-append made so.turns (t ∷ []);
      }

-- so many of the calls were carried out, and their answers written, in the memory that was lent
module _ {N K : Type 0} (𝓝 : Names K) (first : Register N) (calls : List CodeCall) (before : List CodeAnswer) where
  pub record Carried (turn : ℕ) (answers : List CodeAnswer) (r : Register N) : Type 0 where
    pub rest : drop turn answers ≡ drop turn before
    pub loan : SameLoan first r
    pub so-far : (s : Shown) → ShownBy {N = N} 𝓝 first s
        → Sofar 𝓝 s (pool_of first) (map call_of (take turn calls)) (map answer_of (take turn answers)) (pool_of r) r.table.lines r.next

  pub next-turn : (turn : ℕ) (answers : List CodeAnswer) (r : Register N) → turn < length calls → turn < length answers → length answers ≡ length before → Carried turn answers r
      → (d call : CodeCall) → get_or calls turn d ≡ call → (a a' : CodeAnswer) (r' r'' : Register N) → Tells {N = N} 𝓝 r (call_of call) (answer_of a) r' → SameLoan r r'
      → r'' ≡ r' → a' ≡ a → Carried (turn + 1) (set answers turn a') r''
  next-turn turn answers r short room same so d call is a a' r' r'' told loan register-is answer-is = record {
    rest = drop-set-lt (turn + 1) answers turn a' (omega arith) ∙ tail;
    loan = subst (λ (q : Register N). SameLoan first q) (sym register-is) (loan-then first r r' so.loan loan);
    so-far = λ s shows.
        let more = one_more 𝓝 s _ _ _ (pool_of r) r.table.lines r.next (so.so-far s shows) (call_of call) (answer_of a) (pool_of r') r'.table.lines r'.next told.step told.unchanged in
        let calls_are : map call_of (take turn calls) ++ call_of call ∷ [] ≡ map call_of (take (turn + 1) calls) =
        sym (ap (map call_of) (take_more calls turn d short) ∙ map-append call_of (take turn calls) (get_or calls turn d ∷ []) ∙ ap (λ (c : CodeCall). map call_of (take turn calls) ++ call_of c ∷ []) is) in
        let answers_are : map answer_of (take turn answers) ++ answer_of a ∷ [] ≡ map answer_of (take (turn + 1) (set answers turn a')) =
        ap (λ (x : CodeAnswer). map answer_of (take turn answers) ++ answer_of x ∷ []) (sym answer-is)
        ∙ sym (ap (map answer_of) (take_more_set answers turn a' room) ∙ map-append answer_of (take turn answers) (a' ∷ [])) in
        let P : List Call → List Answer → Register N → Type 0 = λ cs as' q. Sofar 𝓝 s (pool_of first) cs as' (pool_of q) q.table.lines q.next in
        subst (λ (q : Register N). P (map call_of (take (turn + 1) calls)) (map answer_of (take (turn + 1) (set answers turn a'))) q) (sym register-is)
        (subst (λ (as' : List Answer). P (map call_of (take (turn + 1) calls)) as' r') answers_are (subst (λ (cs : List Call). P cs (map answer_of (take turn answers) ++ answer_of a ∷ []) r') calls_are more));
  }
    where
      tail : drop (turn + 1) answers ≡ drop (turn + 1) before
      tail = sym (drop-drop 1 turn answers) ∙ ap (drop 1) so.rest ∙ drop-drop 1 turn before

pub ran : {K : Type 0} (𝓚 : Kind K) (named : Name → K) (called : K → Name) → ((n : Name) → called (named n) ≡ n) → (nodes first : ℕ) (calls : List Call) (answers : List Answer)
    (made : Pool) (lines : List (Option Record)) (serial : ℕ) → Shows (names_of 𝓚 named called) made lines serial (newly_made nodes first) → (p : Pool) (ls : List (Option Record)) (next : ℕ)
    → Sofar (names_of 𝓚 named called) (newly_made nodes first) made calls answers p ls next → (memory : List Node) → memory_of p ≡ memory
    → Ran (names_of 𝓚 named called) (newly_made nodes first) calls answers memory
ran 𝓚 named called back nodes first calls answers made lines serial fresh p ls next so memory is =
    let 𝓝 = names_of 𝓚 named called in
    let shows = plainly 𝓝 made lines serial (newly_made nodes first) fresh in
    record {
      made = made;
      fresh = shows;
      turns = so.turns;
      calls_are = so.calls_are;
      answers_are = so.answers_are;
      follows = so.follows;
      leaves = so.leaves;
      law = law-of-runs 𝓚 named called back made nodes first so.turns so.follows so.leaves;
      left = record {
        nodes = ap memory_of so.last ∙ is;
        accounted = memory-accounted _ _ (last-shown 𝓝 made (newly_made nodes first) so.turns shows so.follows).kept.holds;
      };
    }
