use Rattle.std.proofs.Common.{◌≡◌, rules}
use Rattle.std.specs.Result.{result_map_both}
use Rattle.script.specs.declared.answer.Reply.TheVariants.{Totalled}
use Rattle.script.proofs.Saying.{totals-or-declines}
use Rattle.script.proofs.answer.total_answer.Goals as goal

pub returns : goal.returns
returns c =
    let said : c.map.result ≡ result_map_both (λ total. Totalled total) (λ why. why) c.args.res = search rules in
    rw said (totals-or-declines c.args.res)
