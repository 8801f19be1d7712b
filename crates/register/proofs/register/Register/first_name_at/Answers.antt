use Rattle.std.proofs.Common.{None, sym, ap}
use Rattle.register.proofs.Telling.{answered-as}
use Rattle.register.specs.Calls.{Handle, asks, next_name}
use Rattle.register.specs.Contents.{names}
use Rattle.register.proofs.register.Register.first_name_at.Goals as goal

pub returns : goal.returns
returns g c =
    answered-as (names g.N.Key.words g.N.Key.key g.N.Ord.cmp g.N.NameOrder.named g.N.NameOrder.name) c.args.self.now c.first_name-result.ensures (ap (λ (h : Handle). asks h c.args.recorded (next_name None)) (sym c.line-line.ensures)) c.named.ensures
