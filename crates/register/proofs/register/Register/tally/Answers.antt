use Rattle.std.proofs.Common.{◌∙◌}
use Rattle.register.proofs.Counting.{counts, lines-accounted, used-busy}
use Rattle.register.proofs.register.Register.tally.Goals as goal
use Rattle.register.specs.Registers.{pool_of}

pub returns-clause-told : goal.returns-clause-told
returns-clause-told g c = λ s shows. counts _ (pool_of c.args.self.now) c.args.self.now.table.lines c.args.self.now.next s shows _ _ _ c.of.ensures.used c.of.ensures.free (c.of.ensures.lines ∙ c.live.ensures)

pub returns-clause-accounted : goal.returns-clause-accounted
returns-clause-accounted g c = lines-accounted (pool_of c.args.self.now) c.args.self.now.table.lines c.args.self.now.kept

pub returns-clause-in_use : goal.returns-clause-in_use
returns-clause-in_use g c = c.of.ensures.used ∙ used-busy (pool_of c.args.self.now) c.args.self.now.table.lines c.args.self.now.kept
