-- Which refusal is due by the histories of the lines, which are told by the calls and their answers and speak of no tree.
use Rattle.std.specs.Prelude.{List, [], ◌++◌, is_some, Option}
use Rattle.std.specs.Option.{option_map_or}
use Rattle.std.specs.List.{flat_map}
use Rattle.register.specs.Answering.{is_settled}
use Rattle.register.specs.Calls.{Call}
use Rattle.register.specs.Contents.{Names}
use Rattle.register.specs.Declined.{Findings, refusal_by}
use Rattle.register.specs.Histories.{Histories, Told}
use Rattle.register.specs.History.{Entry, Stage, stands}
use Rattle.register.specs.Shown.{Shown}
use Rattle.register.specs.declared.refusal.Refusal.{Refusal}

-- the entries of all stages in order, and behind them those of the open sitting
abbrev pub entries_of : Told → List Entry
entries_of line = flat_map (λ (s : Stage). s.entries) line.stages ++ option_map_or (λ (s : Stage). s.entries) line.sitting []

-- what the histories of the lines say
abbrev pub by_history : Histories → Findings
by_history told =
    record {
      settled = λ handle recorded. is_settled recorded (told handle).stages;
      there = λ handle name measured. is_some (stands (entries_of (told handle)) name measured);
    }

abbrev pub due : {K : Type 0} → Names K → Histories → Shown → Call → Option Refusal
due 𝓝 told s call = refusal_by 𝓝 (by_history told) s call
