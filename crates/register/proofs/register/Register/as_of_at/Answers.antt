use Rattle.std.proofs.Common.{sym, ap}
use Rattle.register.proofs.Telling.{answered-as}
use Rattle.register.specs.Calls.{Handle, as_of, asks}
use Rattle.register.specs.Contents.{names}
use Rattle.register.proofs.register.Register.as_of_at.Goals as goal

pub returns : goal.returns
returns g c =
    answered-as (names g.N.Key.words g.N.Key.key g.N.Ord.cmp g.N.NameOrder.named g.N.NameOrder.name) c.args.self.now c.as_of-result.ensures (ap (λ (h : Handle). asks h c.args.recorded (as_of c.args.name.now c.args.measured)) (sym c.line-line.ensures)) c.found.ensures
