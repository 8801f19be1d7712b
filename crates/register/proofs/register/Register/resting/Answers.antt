use Rattle.std.proofs.Common.{Some}
use Rattle.register.proofs.Finding.{line-ready, rested}
use Rattle.register.proofs.Keeping.{the_places}
use Rattle.register.proofs.register.Register.resting.Goals as goal
use Rattle.register.specs.Registers.{pool_of}

pub returns : goal.returns
returns g c =
    let self = c.args.self.now in
    let (xs, k) = the_places (pool_of self) self.table.lines self.kept in
    let at = c.in_ok-record.ensures in
    record { told = rested (pool_of self) self.table.lines c.args.line.now.place c.args.line.now.serial (Some c.in_ok-record.record) at.0 at.1 _ self.next; ready = line-ready (pool_of self) self.table.lines c.args.line.now.place c.args.line.now.serial (Some c.in_ok-record.record) at.0 at.1 xs k }
