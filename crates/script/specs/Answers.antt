-- What a line of the script is answered, and the pieces of its report line.
use Rattle.std.specs.Prelude.{ℕ, Bool, List, [], ◌∷◌, ℤ, pos, Some, None, Ok, Err, Option, Result, is_err}
use Rattle.tree.specs.declared.range.Total.{Total}
use Rattle.register.specs.Calls as call
use Rattle.register.specs.Refusals.{number_of}
use Rattle.register.specs.declared.refusal.Refusal.{Refusal}
use Rattle.script.specs.declared.answer.Reply.{Reply}
use Rattle.script.specs.declared.answer.Reply.TheVariants.{Done, Counted, Found, Totalled}
use Rattle.report.specs.declared.report.Piece.{Piece}
use Rattle.report.specs.declared.report.Piece.TheVariants as piece

-- the reply of an accepted command, or why it was declined
abbrev pub Answer : Type 0
Answer = Result Reply Refusal

-- the answer to a command that has no value
abbrev pub answer_to : {A : Type 0} → Result A Refusal → Answer
answer_to (Ok value) = Ok Done
answer_to (Err why) = Err why

-- what a question is answered on the register, and so on the line of the script
pub data Says : call.Answer → Answer → Type 0 where
  finds : (reading : Option (ℕ × ℤ)) → Says (call.found reading) (Ok (Found reading))
  totals : (total : Total) → Says (call.totalled total.count total.sum) (Ok (Totalled total))
  declines : (why : Refusal) → Says (call.refused why) (Err why)

-- a declined line counts as refused
abbrev pub counts_as : Answer → Bool
counts_as answer = is_err answer

-- the line's number, and then ok, the numbers of the answer, none where no reading was found, or no with the refusal's number
abbrev pub answer_pieces : ℕ → Answer → List Piece
answer_pieces number (Ok Done) = piece.Number (pos number) ∷ piece.Accepted ∷ []
answer_pieces number (Ok (Counted tally)) = piece.Number (pos number) ∷ piece.Number (pos tally.in_use) ∷ piece.Number (pos tally.free) ∷ piece.Number (pos tally.lines) ∷ []
answer_pieces number (Ok (Found None)) = piece.Number (pos number) ∷ piece.Nothing ∷ []
answer_pieces number (Ok (Found (Some reading))) = piece.Number (pos number) ∷ piece.Number (pos reading.0) ∷ piece.Number reading.1 ∷ []
answer_pieces number (Ok (Totalled total)) = piece.Number (pos number) ∷ piece.Number (pos total.count) ∷ piece.Number total.sum ∷ []
answer_pieces number (Err why) = piece.Number (pos number) ∷ piece.Refused ∷ piece.Number (pos (number_of why)) ∷ []
