-- What a report says: the text of a piece, of a line, and of the whole report.
use Rattle.std.specs.Prelude.{◌≡◌, ℕ, ◌+◌, ◌<◌, ◌≤◌, List, [], ◌∷◌, ◌++◌, length, take, codes, Result, MatchResult}
use Rattle.std.specs.Borrow.{GName}
use Rattle.std.specs.List.{flat_map}
use Rattle.std.specs.Fmt.{signed_decimal}
use Rattle.report.specs.declared.report.Full.{Full}
use Rattle.report.specs.declared.report.Piece.{Piece}
use Rattle.report.specs.declared.report.Piece.TheVariants.{Accepted, Nothing, Refused, End, Number}
use Rattle.report.specs.declared.report.Report.{Report}

-- A number is written in decimal, with a minus in front of a negative one.
abbrev pub text_of : Piece → List ℕ
text_of Accepted = codes "ok"
text_of Nothing = codes "none"
text_of Refused = codes "no"
text_of End = codes "end"
text_of (Number z) = signed_decimal z

-- The pieces' texts, a tab (9) before each but the first, and then a line feed (10).
unfoldable pub line_text : List Piece → List ℕ
line_text [] = 10 ∷ []
line_text (p ∷ ps) = text_of p ++ flat_map (λ q. 9 ∷ text_of q) ps ++ 10 ∷ []

-- All bytes that were lent, written or not.
abbrev pub held : Report → List ℕ
held r = r.bytes.now

-- The ghost name of the slice that was lent: it ends as what the report holds last.
abbrev pub lender : Report → GName
lender r = r.bytes.ghost_name

-- How many bytes there is room for.
abbrev pub capacity : Report → ℕ
capacity r = length (held r)

-- How many bytes are written.
abbrev pub used : Report → ℕ
used r = r.written

-- What is written.
abbrev pub text : Report → List ℕ
text r = take (used r) (held r)

-- The same bytes are lent, as many as before.
pub record KeepsRoom (before after : Report) : Type 0 where
  pub lent : lender after ≡ lender before
  pub kept : capacity after ≡ capacity before

-- The line was added to the text.
pub record LineAdded (before : Report) (line : List ℕ) (after : Report) : Type 0 where
  pub room : used before + length line ≤ capacity before
  pub grown : used after ≡ used before + length line
  pub appended : text after ≡ text before ++ line

-- There was no room for the line, and the text is as it was.
pub record LineRefused (before : Report) (line : List ℕ) (after : Report) : Type 0 where
  pub full : capacity before < used before + length line
  pub stays : used after ≡ used before
  pub unchanged : text after ≡ text before

-- A line is written whole or not at all.
abbrev pub Lined : Report → List Piece → Result (Unit {0}) Full → Report → Type 0
Lined before pieces r after = MatchResult r (λ _. LineAdded before (line_text pieces) after) (λ _. LineRefused before (line_text pieces) after)
