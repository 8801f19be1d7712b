use Rattle.std.proofs.Common.{◌≡◌, rules}
use Rattle.std.specs.Option.{option_map}
use Rattle.std.specs.Result.{result_map_both}
use Rattle.script.specs.declared.answer.Reply.TheVariants.{Found}
use Rattle.script.proofs.Saying.{finds-or-declines}
use Rattle.script.proofs.answer.reading_answer.Goals as goal

pub returns : goal.returns
returns c =
    let said : c.map.result ≡ result_map_both (λ reading. Found (option_map (λ x. (x.0.seconds, x.1.microhertz)) reading)) (λ why. why) c.args.res = search rules in
    rw said (finds-or-declines c.args.res)
