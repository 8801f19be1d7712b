-- The turns of a run: calls with their answers, the memory and what is shown after each, and what is counted over them.
use Rattle.std.specs.Prelude.{◌≡◌, ℕ, ◌+◌, ◌*◌, true, List, [], ◌∷◌, map}
use Rattle.kinds.specs.Packed.{name_of}
use Rattle.pool.specs.declared.pool.Pool.{Pool}
use Rattle.tree.specs.Shape.{height}
use Rattle.register.specs.Answering.{leaves_nodes}
use Rattle.register.specs.Calls.{Answer, Call, Handle, abandons, asks, begins, branches, commits, counted, done, enters, fetches, found, handed, named, opens, refused, retires, stows, tallies, totalled}
use Rattle.register.specs.Contents.{Names, card_tree}
use Rattle.register.specs.Histories.{Histories, told_by}
use Rattle.register.specs.History.{History}
use Rattle.register.specs.Places.{record_of, sheet_at, stages_at}
use Rattle.register.specs.Shown.{Shown, Shows, at}
use Rattle.register.specs.Steps.{Step}

-- a turn of a run: a call, its answer, and the register's memory and what it shows afterwards
pub record Turn : Type 0 where
  pub call : Call
  pub answer : Answer
  pub pool : Pool
  pub after : Shown

abbrev pub call_with_answer : Turn → Call × Answer
call_with_answer t = (t.call, t.answer)

-- what is shown after these turns
abbrev pub shown_after : Shown → List Turn → Shown
shown_after s [] = s
shown_after s (t ∷ ts) = shown_after t.after ts

-- the pool after these turns, from the one that was made
abbrev pub pool_after : Pool → List Turn → Pool
pool_after made [] = made
pool_after made (t ∷ ts) = pool_after t.pool ts

-- what these turns tell of each line, and its history after them
abbrev pub told_after : List Turn → Histories
told_after turns = told_by (map call_with_answer turns)

abbrev pub history_after : List Turn → Handle → History
history_after turns handle = (told_after turns handle).stages

-- the turns follow one another: each is a step from what was shown before it, and its memory shows what is shown after it
abbrev pub Follows : {K : Type 0} → Names K → Shown → List Turn → Type 0
Follows 𝓝 s [] = Unit {0}
Follows 𝓝 s (t ∷ ts) =
    Step 𝓝 s t.call t.answer t.after × Shows 𝓝 t.pool (map record_of t.after.places) t.after.next t.after × Follows 𝓝 t.after ts

-- refusals and questions leave the nodes as they are
abbrev pub LeavesNodes : Pool → List Turn → Type 0
LeavesNodes before [] = Unit {0}
LeavesNodes before (t ∷ ts) = (leaves_nodes t.call t.answer ≡ true → t.pool ≡ before) × LeavesNodes t.pool ts

-- ---- what is counted

-- 1 for an answer that accepts a call, by what it gives
abbrev pub is_done : Answer → ℕ
is_done (refused why) = 0
is_done done = 1
is_done (handed handle) = 0
is_done (counted tally) = 0
is_done (found reading) = 0
is_done (totalled count sum) = 0
is_done (named name) = 0

abbrev pub is_handed : Answer → ℕ
is_handed (refused why) = 0
is_handed done = 0
is_handed (handed handle) = 1
is_handed (counted tally) = 0
is_handed (found reading) = 0
is_handed (totalled count sum) = 0
is_handed (named name) = 0

-- 1 for a call that gives a new line, and for one that ends a line
abbrev pub is_start : Call → ℕ
is_start opens = 1
is_start (branches handle) = 1
is_start (begins handle recorded) = 0
is_start (enters handle name measured change) = 0
is_start (commits handle) = 0
is_start (abandons handle) = 0
is_start (stows handle letter) = 0
is_start (fetches letter) = 0
is_start (retires handle) = 0
is_start tallies = 0
is_start (asks handle recorded question) = 0

abbrev pub is_end : Call → ℕ
is_end opens = 0
is_end (branches handle) = 0
is_end (begins handle recorded) = 0
is_end (enters handle name measured change) = 0
is_end (commits handle) = 0
is_end (abandons handle) = 0
is_end (stows handle letter) = 0
is_end (fetches letter) = 0
is_end (retires handle) = 1
is_end tallies = 0
is_end (asks handle recorded question) = 0

-- the accepted openings and branchings, and the accepted retirements
abbrev pub started : List Turn → ℕ
started [] = 0
started (t ∷ ts) = is_start t.call * is_handed t.answer + started ts

abbrev pub ended : List Turn → ℕ
ended [] = 0
ended (t ∷ ts) = is_end t.call * is_done t.answer + ended ts

-- how many nodes an accepted call may add: an entry three for each level of its sheet and card, and two more; a commit one for each level of
-- its line, and one more; any other none
abbrev pub growth : {K : Type 0} → Names K → Shown → Call → ℕ
growth 𝓝 s opens = 0
growth 𝓝 s (branches handle) = 0
growth 𝓝 s (begins handle recorded) = 0
growth 𝓝 s (enters handle name measured change) =
    3 * height (sheet_at (at s handle)).tree + 3 * height (card_tree 𝓝 (𝓝.named (name_of name)) (sheet_at (at s handle)).tree) + 2
growth 𝓝 s (commits handle) = height (stages_at (at s handle)).tree + 1
growth 𝓝 s (abandons handle) = 0
growth 𝓝 s (stows handle letter) = 0
growth 𝓝 s (fetches letter) = 0
growth 𝓝 s (retires handle) = 0
growth 𝓝 s tallies = 0
growth 𝓝 s (asks handle recorded question) = 0
