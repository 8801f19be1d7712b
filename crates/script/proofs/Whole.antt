-- What a run writes is told of one list of turns, and these lead from where it begins to where it ends.
use Rattle.std.proofs.Common.{◌≡◌, ℕ, zero, suc, Bool, List, [], ◌++◌, Some, None, Option, Result, refl, sym, ap, ◌∙◌, subst}
use Rattle.kinds.specs.declared.name.Name.{Name}
use Rattle.pool.proofs.Pools.{emptied}
use Rattle.pool.specs.FreeList.{AllFree}
use Rattle.pool.specs.Sound.{memory_of}
use Rattle.pool.specs.declared.node.Node.{Node}
use Rattle.pool.specs.declared.pool.Pool.{Pool}
use Rattle.register.proofs.Bounding.{memory-accounted}
use Rattle.register.proofs.LawOfRuns.{law-of-runs}
use Rattle.register.proofs.Splitting.{follows-append, last-shown, leaves-append, plainly, pool-append, shown-append}
use Rattle.register.specs.Calls as call
use Rattle.register.specs.Calls.{Call}
use Rattle.register.specs.Turns.{Follows, LeavesNodes, Turn, pool_after, shown_after}
use Rattle.register.specs.Runs.{Moment, Runs}
use Rattle.register.specs.Registers.{ShownBy, pool_of}
use Rattle.register.specs.Shown.{Shown, newly_made}
use Rattle.register.specs.declared.register.Register.{Register}
use Rattle.script.proofs.Order.{by_bytes}
use Rattle.script.specs.Answers.{Answer}
use Rattle.script.specs.Commands.{Request, request_of}
use Rattle.script.specs.Fields.{fields_of}
use Rattle.script.specs.Reports.{Writes, end_cut, end_fits, line_cut, line_empty, line_fits}
use Rattle.script.specs.Runs.{Answered, AnsweredBy, Cleared, Ended, Standing, beginning, forward}
use Rattle.script.specs.Scripts.{Reported}
use Rattle.script.specs.Standings.{moment}
use Rattle.script.specs.Whole.{RanScript, clearing_turns, end_turns, line_turns, report_turns, turns_of}
use Rattle.script.specs.declared.runner.Stopped.{Stopped}

-- the turns lead from one moment to the other
pub record Taken (m : Moment) (turns : List Turn) (m' : Moment) : Type 0 where
  pub follows : Follows forward m.shown turns
  pub leaves : LeavesNodes m.pool turns
  pub ends : shown_after m.shown turns ≡ m'.shown
  pub last : pool_after m.pool turns ≡ m'.pool

taken-none : (m : Moment) → Taken m [] m
taken-none m = record { follows = tt; leaves = tt; ends = refl; last = refl }

taken-append : (m n m' : Moment) (front back : List Turn) → Taken m front n → Taken n back m' → Taken m (front ++ back) m'
taken-append m n m' front back f b =
    record {
      follows = follows-append forward m.shown front back f.follows (subst (λ (s : Shown). Follows forward s back) (sym f.ends) b.follows);
      leaves = leaves-append m.pool front back f.leaves (subst (λ (p : Pool). LeavesNodes p back) (sym f.last) b.leaves);
      ends = shown-append m.shown front back ∙ ap (λ (s : Shown). shown_after s back) f.ends ∙ b.ends;
      last = pool-append m.pool front back ∙ ap (λ (p : Pool). pool_after p back) f.last ∙ b.last;
    }

runs-taken : (m m' : Moment) (calls : List (Call × call.Answer)) (r : Runs forward m calls m') → Taken m r.turns m'
runs-taken m m' calls r = record { follows = r.follows; leaves = r.leaves; ends = r.ends; last = r.last }

line-taken : (request : Option Request) (s s' : Standing) (answer : Answer) (h : AnsweredBy request s answer s') → Taken s.now (line_turns request s s' answer h) s'.now
line-taken None s s' answer h = subst (λ (z : Standing). Taken s.now [] z.now) (sym h.1) (taken-none s.now)
line-taken (Some request) s s' answer h = runs-taken s.now s'.now h.calls h.runs

clearing-taken : (shelves : ℕ) (m m' : Moment) (c : Cleared shelves m m') → Taken m (clearing_turns shelves m m' c) m'
unfolding Cleared
clearing-taken zero m m' c = subst (Taken m []) c (taken-none m)
clearing-taken (suc shelves) m m' c = taken-append m c.0 m' _ _ (clearing-taken shelves m c.0 c.1) (runs-taken c.0 m' c.2.0 c.2.2)

end-taken : (end : Moment) (s : Standing) (nodes : ℕ) (e : Ended end s nodes) → Taken s.now (end_turns end s nodes e) end
end-taken end s nodes e = taken-append s.now e.between end _ _ (runs-taken s.now e.between _ e.left) (clearing-taken 26 e.between end e.cleared)

pub written-taken : (end : Moment) (room lines refused : ℕ) (s : Standing) (rest : List (List ℕ)) (text : List ℕ) (whole : Bool)
    (w : Writes Answered (Ended end) room lines refused s rest text whole) → Taken s.now (turns_of end room lines refused s rest text whole w) end
written-taken end room lines refused s rest text whole (end_fits _ _ _ _ nodes e _) = end-taken end s nodes e
written-taken end room lines refused s rest text whole (end_cut _ _ _ _ nodes e _) = end-taken end s nodes e
written-taken end room lines refused s rest text whole (line_empty _ _ _ _ behind _ _ w) = written-taken end room _ refused s behind text whole w
written-taken end room lines refused s rest text whole (line_fits _ _ _ _ line behind answer s' later _ _ a _ w) =
    taken-append s.now s'.now end _ _ (line-taken (request_of (fields_of line)) s s' answer a) (written-taken end _ _ _ s' behind later whole w)
written-taken end room lines refused s rest text whole (line_cut _ _ _ _ line behind answer s' nodes _ a e _) =
    taken-append s.now s'.now end _ _ (line-taken (request_of (fields_of line)) s s' answer a) (end-taken end s' nodes e)

pub ran-script : (first last : Register Name) (nodes serial : ℕ) → ShownBy forward first (newly_made nodes serial) → (t : Shown) → ShownBy forward last t → t.used ≡ 0
    → (script : List ℕ) (answer : Result ℕ Stopped) (before after : List ℕ)
    → Reported Answered (Ended (moment last t)) (beginning (pool_of first) nodes serial) script answer before after
    → (memory : List Node) → memory_of (pool_of last) ≡ memory → RanScript nodes serial script answer before after memory
ran-script first last nodes serial fresh t shows none script answer before after told memory is =
    let made = pool_of first in
    let start = newly_made nodes serial in
    let end = moment last t in
    let turns = report_turns end (beginning made nodes serial) script answer before after told in
    let taken : Taken (moment first start) turns end = written-taken end _ _ _ _ _ _ _ told.written in
    let new = plainly forward made first.table.lines first.next start fresh in
    record {
      made = made;
      fresh = new;
      end = end;
      reported = told;
      turns = turns;
      told = refl;
      follows = taken.follows;
      leaves = taken.leaves;
      law = law-of-runs by_bytes (λ name. name) (λ key. key) (λ name. refl) made nodes serial turns taken.follows taken.leaves;
      left = record {
        nodes = ap memory_of taken.last ∙ is;
        accounted = memory-accounted _ _ (last-shown forward made start turns new taken.follows).kept.holds;
      };
      all_free = subst AllFree is (emptied (pool_of last) _ shows.kept.holds (shows.used_is ∙ none));
    }
