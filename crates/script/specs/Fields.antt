-- The fields of a line, parted by tabs: a line of k tabs has k + 1 fields, and a field may be empty.
use Rattle.std.specs.Prelude.{◌≡◌, ℕ, ◌<◌, ◌≤◌, not, cond, List, [], ◌∷◌, ◌++◌, length, take, drop, Some, None, Option, MatchOption, ◌==◌, ◌≢◌, nat_lt}
use Rattle.std.specs.List.{AllByRecursion, prefix_len}
use Rattle.script.specs.declared.lexer.Field.{Field}
use Rattle.script.specs.declared.lexer.Field.TheVariants.{Number, Negative, Word}
use Rattle.script.specs.declared.lexer.Lexer.{Lexer}
use Rattle.script.specs.declared.lexer.Part.{Part}
use Rattle.script.specs.Lines.{on_first}
use Rattle.script.specs.Numerals.{number_of, magnitude_of}

abbrev pub fields_of : List ℕ → List (List ℕ)
fields_of [] = [] ∷ []
fields_of (byte ∷ bytes) = cond (byte == 9) ([] ∷ fields_of bytes) (on_first byte (fields_of bytes))

-- the fields put together again, with a tab between each two
abbrev pub joined_by_tabs : List (List ℕ) → List ℕ
joined_by_tabs [] = []
joined_by_tabs (field ∷ []) = field
joined_by_tabs (field ∷ next ∷ fields) = field ++ 9 ∷ joined_by_tabs (next ∷ fields)

-- The fields part the line: they are at least one, together they are the line, and none has a tab.
pub record Parts (line : List ℕ) (fields : List (List ℕ)) : Type 0 where
  pub some : 0 < length fields
  pub whole : joined_by_tabs fields ≡ line
  pub plain : AllByRecursion (AllByRecursion (λ byte. byte ≢ 9)) fields

-- a field's part of the script
abbrev pub part_of : Field → Part
part_of (Number part value) = part
part_of (Negative part magnitude) = part
part_of (Word part) = part

abbrev pub text_of : Field → List ℕ
text_of field = (part_of field).text.now

-- a field's variant and value are those of its text
abbrev pub Lexed : Field → Type 0
Lexed (Number part value) = number_of part.text.now ≡ Some value
Lexed (Negative part magnitude) = (number_of part.text.now ≡ None) × (magnitude_of part.text.now ≡ Some magnitude)
Lexed (Word part) = (number_of part.text.now ≡ None) × (magnitude_of part.text.now ≡ None)

-- a field is made of this part, and its variant and value are those of its text
pub record IsFieldOf (part : Part) (field : Field) : Type 0 where
  pub made_of : part_of field ≡ part
  pub lexed : Lexed field

-- the fields from a place on; past the end there is none
abbrev pub fields_from : List ℕ → ℕ → List (List ℕ)
fields_from line place = cond (nat_lt (length line) place) [] (fields_of (drop place line))

-- the fields that a lexer has yet to give
abbrev pub left : Lexer → List (List ℕ)
left lexer = fields_from lexer.script.now lexer.next

-- The lexer gives the first of the fields that are left, which stands at the lexer's place.
pub record Gives (before : Lexer) (field : Field) (after : Lexer) : Type 0 where
  pub fields : left before ≡ text_of field ∷ left after
  pub place : (part_of field).place ≡ before.next
  pub part : text_of field ≡ take (length (text_of field)) (drop (part_of field).place before.script.now)
  pub lexed : Lexed field

-- The lexer gives its next field, or none where none is left, and keeps the script.
abbrev pub GivesNext : Lexer → Option Field → Lexer → Type 0
GivesNext before result after =
    MatchOption result ((left before ≡ []) × (after ≡ before)) (λ field. Gives before field after) × (after.script ≡ before.script)

-- the part of the line at the lexer's place, up to the first tab or to the line's end
pub record IsNextPart (lexer : Lexer) (part : Part) : Type 0 where
  pub place : part.place ≡ lexer.next
  pub inside : lexer.next ≤ length lexer.script.now
  pub text : part.text.now ≡ take (length part.text.now) (drop lexer.next lexer.script.now)
  pub size : length part.text.now ≡ prefix_len (λ byte. not (byte == 9)) (drop lexer.next lexer.script.now)
