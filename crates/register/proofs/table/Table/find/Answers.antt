use Rattle.std.proofs.Common.{rules}
use Rattle.register.proofs.Tables.{lowest-taken}
use Rattle.register.proofs.table.Table.find.Goals as goal

pub returns-in_err-record-clause-place : goal.returns-in_err-record-clause-place
returns-in_err-record-clause-place c =
    absurd (lowest-taken c.args.state c.args.self.now.lines c.in_ok-place.place (search rules) (search rules))
