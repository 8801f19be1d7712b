use Rattle.std.proofs.Common.{sym, arith}
use Rattle.std.proofs.lemmas.List.{set_past}
use Rattle.register.proofs.table.Table.set.Goals as goal

pub returns-else-i-lt64 : goal.returns-else-i-lt64
returns-else-i-lt64 c = sym (set_past c.args.self.now.lines c.args.place c.args.line (omega (arith, c.args.self.now.sized)))
