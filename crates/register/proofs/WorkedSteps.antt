-- The calls of the worked script, with their answers, are steps.
use Rattle.std.proofs.Common.{ℕ, List, [], ◌∷◌, Some, None, drop, pos, neg_ℤ, refl, lit≤}
use Rattle.kinds.specs.Instant.{instant_of}
use Rattle.kinds.specs.Packed.{weighed}
use Rattle.pool.specs.Held.{Held, held}
use Rattle.pool.specs.Tree.{Tree, leaf}
use Rattle.tree.specs.Insert.{compared, insert}
use Rattle.tree.specs.Lookup.{at_most, find, last}
use Rattle.tree.specs.Rebuild.{balance, rotate_double, rotate_left, rotate_right}
use Rattle.tree.specs.Remove.{first, join, remove, without_first}
use Rattle.register.specs.Asked.{key_of}
use Rattle.register.specs.Calls.{Answer, Call, as_of, asks, begins, commits, done, fetches, found, refused, retires, total, totalled}
use Rattle.register.specs.Contents.{card_of, earlier, entered, instant_at, sheet_of, stages_of}
use Rattle.register.specs.Places.{Place, free, live, none, resting, sitting, stowed}
use Rattle.register.specs.Shown.{Shown, with_line, with_place, with_used}
use Rattle.register.specs.Steps.{Step}
use Rattle.register.specs.Trees.{changed_tree, entered_tree, instant_words, with_card_tree}
use Rattle.register.specs.WorkedScript.{StepsFrom, entry, forward, gauge, handle, made, put_back, script_calls, shelf, taken}
use Rattle.register.specs.declared.entries.Change.{Change}
use Rattle.register.specs.declared.entries.Change.TheVariants.{Record, Correct, Withdraw}
use Rattle.register.specs.declared.refusal.Refusal.TheVariants.{NotLater, ShelfEmpty}

-- with this line at the place, and so many nodes in use
abbrev shown : ℕ → Place → Shown
shown used place = with_place (with_used (with_line (made 1000) none) used) 0 place

abbrev shelved : ℕ → Held → Shown
shelved used stages = shown used (live 1 stages (stowed shelf))

abbrev rested : ℕ → Held → Shown
rested used stages = shown used (live 1 stages resting)

abbrev seated : ℕ → Held → ℕ → Held → Shown
seated used stages recorded sheet = shown used (live 1 stages (sitting recorded sheet))

-- the sheets after the entries, and the lines after the commits
abbrev after : ℕ → Change → Tree → Tree
after measured change sheet = entered_tree forward (key_of forward gauge) (instant_of measured) change sheet

abbrev stage : ℕ → Tree → Tree → Tree
stage recorded sheet line = insert (compared instant_at earlier (instant_of recorded)) (instant_words (instant_of recorded)) (pos 0) sheet line

abbrev sheet-1 : Held
sheet-1 = held 1 (after 40 (Record (pos 250)) leaf)

abbrev sheet-2 : Held
sheet-2 = held 1 (after 60 (Record (neg_ℤ (pos 30))) sheet-1.tree)

abbrev line-1 : Held
line-1 = held 4 (stage 100 sheet-2.tree leaf)

abbrev sheet-3 : Held
sheet-3 = held 5 (after 40 (Correct (pos 245)) sheet-2.tree)

abbrev sheet-4 : Held
sheet-4 = held 5 (after 60 Withdraw sheet-3.tree)

abbrev line-2 : Held
line-2 = held 4 (stage 200 sheet-4.tree line-1.tree)

abbrev Calls : Type 0
Calls = List (Call × Answer)

-- the two sittings, and what comes after them
first-sitting : (rest : Calls) → StepsFrom (shelved 4 line-1) rest
    → StepsFrom (shelved 0 none) (
    taken ∷ (begins handle 100, done) ∷
    entry 40 (Record (pos 250)) ∷ entry 60 (Record (neg_ℤ (pos 30))) ∷
    (commits handle, done) ∷ put_back ∷ rest)
unfolding weighed entered sheet_of card_of stages_of changed_tree with_card_tree find last insert remove join balance rotate_left rotate_right rotate_double
first-sitting rest steps = (
  rested 0 none,
  (refl, refl),
  (
    seated 0 none 100 none,
    (refl, record { sheet = none; last = refl; after = refl }),
    (
      seated 2 none 100 sheet-1,
      (refl, record { sheet = sheet-1; used = 2; contents = refl; grown = lit≤ tt; after = refl }),
      (
        seated 3 none 100 sheet-2,
        (refl, record { sheet = sheet-2; used = 3; contents = refl; grown = lit≤ tt; after = refl }),
        (
          rested 4 line-1,
          (refl, record { stages = line-1; used = 4; contents = refl; grown = lit≤ tt; after = refl }),
          (shelved 4 line-1, (refl, refl), steps),
        ),
      ),
    ),
  ),
)

second-sitting : (rest : Calls) → StepsFrom (shelved 7 line-2) rest
    → StepsFrom (shelved 4 line-1) (
    taken ∷ (begins handle 200, done) ∷
    entry 40 (Correct (pos 245)) ∷ entry 60 Withdraw ∷
    (commits handle, done) ∷ put_back ∷ rest)
unfolding weighed entered sheet_of card_of stages_of changed_tree with_card_tree find last insert remove join first without_first balance rotate_left rotate_right rotate_double
second-sitting rest steps = (
  rested 4 line-1,
  (refl, refl),
  (
    seated 4 line-1 200 sheet-2,
    (refl, record { sheet = sheet-2; last = refl; after = refl }),
    (
      seated 6 line-1 200 sheet-3,
      (refl, record { sheet = sheet-3; used = 6; contents = refl; grown = lit≤ tt; after = refl }),
      (
        seated 6 line-1 200 sheet-4,
        (refl, record { sheet = sheet-4; used = 6; contents = refl; grown = lit≤ tt; after = refl }),
        (
          rested 7 line-2,
          (refl, record { stages = line-2; used = 7; contents = refl; grown = lit≤ tt; after = refl }),
          (shelved 7 line-2, (refl, refl), steps),
        ),
      ),
    ),
  ),
)

-- a call that leaves the line as it was, and what comes after it
still : (call : Call) (answer : Answer) (rest : Calls) → Step forward (rested 7 line-2) call answer (rested 7 line-2)
    → StepsFrom (shelved 7 line-2) rest → StepsFrom (shelved 7 line-2) (taken ∷ (call, answer) ∷ put_back ∷ rest)
still call answer rest step steps = (rested 7 line-2, (refl, refl), (rested 7 line-2, step, (shelved 7 line-2, (refl, refl), steps)))

ending : StepsFrom (shelved 7 line-2) (taken ∷ (retires handle, done) ∷ (fetches shelf, refused ShelfEmpty) ∷ [])
ending = (rested 7 line-2, (refl, refl), (shown 0 free, (refl, record { used = 0; fewer = lit≤ tt; after = refl }), (shown 0 free, (refl, refl), tt)))

-- after so many calls
abbrev behind : ℕ → Calls
behind n = drop n script_calls

pub script-steps : StepsFrom (made 1000) script_calls
unfolding weighed entered sheet_of card_of stages_of changed_tree with_card_tree find at_most last insert remove join first without_first balance rotate_left rotate_right rotate_double
script-steps =
    let end = still (begins handle 200) (refused NotLater) (behind 29) (refl, refl) ending in
    let totals = still (asks handle 199 (total gauge 40 60)) (totalled 2 (pos 220)) (behind 26) (refl, refl) end in
    let before = still (asks handle 99 (as_of gauge 70)) (found None) (behind 23) (refl, refl) totals in
    let later = still (asks handle 200 (as_of gauge 70)) (found (Some (40, pos 245))) (behind 20) (refl, refl) before in
    let asked = still (asks handle 150 (as_of gauge 70)) (found (Some (60, neg_ℤ (pos 30)))) (behind 17) (refl, refl) later in
    (rested 0 none, (refl, refl), (shelved 0 none, (refl, refl), first-sitting (behind 8) (second-sitting (behind 14) asked)))
