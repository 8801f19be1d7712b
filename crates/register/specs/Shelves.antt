-- What lies on the shelves, by the places of the table.
use Rattle.std.specs.Prelude.{◌≡◌, ℕ, ◌+◌, Bool, true, false, cond, List, [], ◌∷◌, slice_index_or}
use Rattle.register.specs.Places.{Place, free, is_stowed, live, resting, sitting, stowed}
use Rattle.register.specs.Tables.{is_letter}

-- at most one line lies on each shelf
abbrev pub Single : List Place → Type 0
Single places =
    (letter i j : ℕ) → is_stowed letter (slice_index_or places i free) ≡ true → is_stowed letter (slice_index_or places j free) ≡ true → i ≡ j

-- no line lies on the shelf
abbrev pub Bare : List Place → ℕ → Type 0
Bare places letter = (i : ℕ) → is_stowed letter (slice_index_or places i free) ≡ false

-- the line at a place lies on a shelf
abbrev pub is_laid : Place → Bool
is_laid free = false
is_laid (live serial stages resting) = false
is_laid (live serial stages (sitting recorded sheet)) = false
is_laid (live serial stages (stowed letter)) = is_letter letter

-- the number of lines that lie on shelves
abbrev pub laid_in : List Place → ℕ
laid_in [] = 0
laid_in (place ∷ places) = cond (is_laid place) 1 0 + laid_in places
