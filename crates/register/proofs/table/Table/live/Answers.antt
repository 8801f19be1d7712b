use Rattle.std.proofs.Common.{None, is_some, ap, ◌∙◌, arith, rules}
use Rattle.std.proofs.lemmas.List.{take_all, length-take}
use Rattle.std.proofs.lemmas.List.Sums.{count_by-le-length, count_by_more_no, count_by_more_yes}
use Rattle.register.specs.Tables.{live}
use Rattle.register.proofs.table.Table.live.Goals as goal

pub overflow_add-count : goal.overflow_add-count
overflow_add-count c = search (rules, count_by-le-length, length-take)

pub loop-line-preserved : goal.loop-line-preserved
loop-line-preserved c = search (rules, count_by_more_no, count_by_more_yes)

pub returns : goal.returns
returns c = c.loop-line.invariant ∙ ap live (take_all c.loop-line.line-index c.args.self.now.lines (omega arith))
