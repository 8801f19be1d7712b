-- A whole run of a script: its report is told of one list of turns, from the newly made register to the last retirement, of which the
-- law of whole runs holds.
use Rattle.std.specs.Prelude.{◌≡◌, ℕ, zero, suc, Bool, List, [], ◌++◌, map, Some, None, Option, Result}
use Rattle.pool.specs.FreeList.{AllFree}
use Rattle.pool.specs.declared.node.Node.{Node}
use Rattle.pool.specs.declared.pool.Pool.{Pool}
use Rattle.register.specs.Law.{Law, LeftIn}
use Rattle.register.specs.Turns.{Follows, LeavesNodes, Turn}
use Rattle.register.specs.Places.{record_of}
use Rattle.register.specs.Runs.{Moment}
use Rattle.register.specs.Shown.{Shows, newly_made}
use Rattle.script.specs.Answers.{Answer}
use Rattle.script.specs.Commands.{Request, request_of}
use Rattle.script.specs.Fields.{fields_of}
use Rattle.script.specs.Reports.{Writes, end_cut, end_fits, line_cut, line_empty, line_fits}
use Rattle.script.specs.Runs.{Answered, AnsweredBy, Cleared, Ended, Standing, beginning, forward}
use Rattle.script.specs.Scripts.{Reported}
use Rattle.script.specs.declared.runner.Stopped.{Stopped}

-- the turns of a line: none where it asks for nothing
abbrev pub line_turns : (request : Option Request) (s s' : Standing) (answer : Answer) → AnsweredBy request s answer s' → List Turn
line_turns None s s' answer h = []
line_turns (Some request) s s' answer h = h.runs.turns

-- the turns in which shelves are cleared
abbrev pub clearing_turns : (shelves : ℕ) (m m' : Moment) → Cleared shelves m m' → List Turn
unfolding Cleared
clearing_turns zero m m' c = []
clearing_turns (suc shelves) m m' c = clearing_turns shelves m c.0 c.1 ++ c.2.2.turns

-- the turns in which everything is given up
abbrev pub end_turns : (end : Moment) (s : Standing) (nodes : ℕ) → Ended end s nodes → List Turn
end_turns end s nodes e = e.left.turns ++ clearing_turns 26 e.between end e.cleared

-- all turns of what a run writes
abbrev pub turns_of : (end : Moment) (room lines refused : ℕ) (s : Standing) (rest : List (List ℕ)) (text : List ℕ) (whole : Bool)
    → Writes Answered (Ended end) room lines refused s rest text whole → List Turn
turns_of end room lines refused s rest text whole (end_fits _ _ _ _ nodes e _) = end_turns end s nodes e
turns_of end room lines refused s rest text whole (end_cut _ _ _ _ nodes e _) = end_turns end s nodes e
turns_of end room lines refused s rest text whole (line_empty _ _ _ _ behind _ _ w) = turns_of end room _ refused s behind text whole w
turns_of end room lines refused s rest text whole (line_fits _ _ _ _ line behind answer s' later _ _ a _ w) =
    line_turns (request_of (fields_of line)) s s' answer a ++ turns_of end _ _ _ s' behind later whole w
turns_of end room lines refused s rest text whole (line_cut _ _ _ _ line behind answer s' nodes _ a e _) =
    line_turns (request_of (fields_of line)) s s' answer a ++ end_turns end s' nodes e

abbrev pub report_turns : (end : Moment) (start : Standing) (script : List ℕ) (answer : Result ℕ Stopped) (before after : List ℕ)
    → Reported Answered (Ended end) start script answer before after → List Turn
report_turns end start script answer before after r = turns_of end _ _ _ _ _ _ _ r.written

-- A script ran in a register made with so many nodes and this first serial, and answered so. It left its report in the bytes, and in the
-- memory all nodes free, each once on the free list.
pub record RanScript (nodes first : ℕ) (script : List ℕ) (answer : Result ℕ Stopped) (before after : List ℕ) (memory : List Node) : Type 0 where
  pub made : Pool
  pub fresh : Shows forward made (map record_of (newly_made nodes first).places) first (newly_made nodes first)
  pub end : Moment
  pub reported : Reported Answered (Ended end) (beginning made nodes first) script answer before after
  pub turns : List Turn
  pub told : turns ≡ report_turns end (beginning made nodes first) script answer before after reported
  pub follows : Follows forward (newly_made nodes first) turns
  pub leaves : LeavesNodes made turns
  pub law : Law forward made (newly_made nodes first) turns
  pub left : LeftIn made (newly_made nodes first) turns memory
  pub all_free : AllFree memory
