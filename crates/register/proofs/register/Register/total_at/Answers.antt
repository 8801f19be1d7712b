use Rattle.std.proofs.Common.{sym, ap}
use Rattle.register.proofs.Telling.{answered-as}
use Rattle.register.specs.Calls.{Handle, asks, total}
use Rattle.register.specs.Contents.{names}
use Rattle.register.proofs.register.Register.total_at.Goals as goal

pub returns : goal.returns
returns g c =
    answered-as (names g.N.Key.words g.N.Key.key g.N.Ord.cmp g.N.NameOrder.named g.N.NameOrder.name) c.args.self.now c.total-result.ensures (ap (λ (h : Handle). asks h c.args.recorded (total c.args.name.now c.args.from c.args.to)) (sym c.line-line.ensures)) c.totalled.ensures
