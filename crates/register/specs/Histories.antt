-- The histories of the lines of a register, from the calls and their answers alone.
use Rattle.std.specs.Prelude.{Bool, cond, ◌&&◌, List, [], ◌∷◌, ◌++◌, Some, None, Option, ◌==◌}
use Rattle.std.specs.Option.{option_map}
use Rattle.register.specs.Calls.{Answer, Call, Handle, abandons, asks, begins, branches, commits, counted, done, enters, fetches, found, handed, named, opens, refused, retires, stows, tallies, totalled}
use Rattle.register.specs.History.{Entry, History, Stage}

-- a line: its stages, and in a sitting its recorded instant with the entries so far
pub record Told : Type 0 where
  pub stages : History
  pub sitting : Option Stage

-- what was told of each line, by its handle
abbrev pub Histories : Type 0
Histories = Handle → Told

abbrev pub nothing_told : Told
nothing_told = record { stages = []; sitting = None }

abbrev pub same_handle : Handle → Handle → Bool
same_handle g h = g.place == h.place && g.serial == h.serial

-- the same but for one line
abbrev pub with_told : Histories → Handle → Told → Histories
with_told told handle line = λ h. cond (same_handle h handle) line (told h)

-- one entry more in the sitting
abbrev pub with_entry : Entry → Stage → Stage
with_entry entry stage = record { recorded = stage.recorded; entries = stage.entries ++ entry ∷ [] }

-- the sitting becomes the last stage
abbrev pub closed : Told → Told
closed line = elim line.sitting [
  | Some stage ↦ record { stages = line.stages ++ stage ∷ []; sitting = None }
  | None ↦ line
]

-- An opening starts an empty history; a branching copies it for the new line. Beginning a sitting starts an empty list of entries, and each
-- entry goes on its end. Committing adds that list as the last stage, and abandoning drops it.
abbrev pub when_done : Histories → Call → Histories
when_done told opens = told
when_done told (branches handle) = told
when_done told (begins handle recorded) =
    with_told told handle (record { stages = (told handle).stages; sitting = Some (record { recorded = recorded; entries = [] }) })
when_done told (enters handle name measured change) =
    with_told told handle (record { stages = (told handle).stages; sitting = option_map (with_entry (record { name = name; measured = measured; change = change })) (told handle).sitting })
when_done told (commits handle) = with_told told handle (closed (told handle))
when_done told (abandons handle) = with_told told handle (record { stages = (told handle).stages; sitting = None })
when_done told (stows handle letter) = told
when_done told (fetches letter) = told
when_done told (retires handle) = told
when_done told tallies = told
when_done told (asks handle recorded question) = told

abbrev pub when_handed : Histories → Call → Handle → Histories
when_handed told opens new = with_told told new nothing_told
when_handed told (branches handle) new = with_told told new (record { stages = (told handle).stages; sitting = None })
when_handed told (begins handle recorded) new = told
when_handed told (enters handle name measured change) new = told
when_handed told (commits handle) new = told
when_handed told (abandons handle) new = told
when_handed told (stows handle letter) new = told
when_handed told (fetches letter) new = told
when_handed told (retires handle) new = told
when_handed told tallies new = told
when_handed told (asks handle recorded question) new = told

-- refused calls and all others tell nothing
abbrev pub after_call : Histories → Call → Answer → Histories
after_call told call (refused why) = told
after_call told call done = when_done told call
after_call told call (handed new) = when_handed told call new
after_call told call (counted tally) = told
after_call told call (found reading) = told
after_call told call (totalled count sum) = told
after_call told call (named name) = told

-- what the calls with their answers tell, the first one first
abbrev pub told_from : Histories → List (Call × Answer) → Histories
told_from told [] = told
told_from told (c ∷ cs) = told_from (after_call told c.0 c.1) cs

abbrev pub told_by : List (Call × Answer) → Histories
told_by = told_from (λ h. nothing_told)
