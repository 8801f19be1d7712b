-- What a question's result says on the line of the script.
use Rattle.std.proofs.Common.{Ok, Err, Option, Result}
use Rattle.std.specs.Option.{option_map}
use Rattle.std.specs.Result.{result_map_both}
use Rattle.kinds.specs.declared.instant.Instant.{Instant}
use Rattle.kinds.specs.declared.reading.Reading.{Reading}
use Rattle.tree.specs.declared.range.Total.{Total}
use Rattle.register.specs.Calls.{found_answer, total_answer}
use Rattle.register.specs.declared.refusal.Refusal.{Refusal}
use Rattle.script.specs.Answers.{Says, declines, finds, totals}
use Rattle.script.specs.declared.answer.Reply.TheVariants.{Found, Totalled}

pub finds-or-declines : (res : Result (Option (Instant × Reading)) Refusal)
    → Says (found_answer res) (result_map_both (λ reading. Found (option_map (λ x. (x.0.seconds, x.1.microhertz)) reading)) (λ why. why) res)
finds-or-declines (Ok reading) = finds (option_map (λ x. (x.0.seconds, x.1.microhertz)) reading)
finds-or-declines (Err why) = declines why

pub totals-or-declines : (res : Result Total Refusal) → Says (total_answer res) (result_map_both (λ total. Totalled total) (λ why. why) res)
totals-or-declines (Ok total) = totals total
totals-or-declines (Err why) = declines why
