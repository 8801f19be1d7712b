use Rattle.std.proofs.Common.{sym, ap}
use Rattle.register.proofs.Telling.{told-as}
use Rattle.register.specs.Calls.{Handle, enters}
use Rattle.register.specs.Contents.{names}
use Rattle.register.proofs.register.Register.enter_at.Goals as goal

pub returns-clause-told : goal.returns-clause-told
returns-clause-told g c =
    told-as (names g.N.Key.words g.N.Key.key g.N.Ord.cmp g.N.NameOrder.named g.N.NameOrder.name) c.args.self.now c.enter-result.new.self c.enter-result.ensures.told (ap (λ (h : Handle). enters h c.args.name.now c.args.measured c.args.change) (sym c.sitting-sitting.ensures)) c.entered.ensures.answer
