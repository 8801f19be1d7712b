use Rattle.std.proofs.Common.{refl, ap}
use Rattle.register.proofs.Telling.{answered-as}
use Rattle.register.specs.Contents.{names}
use Rattle.register.specs.Plain.{question_of}
use Rattle.register.proofs.register.Register.ask.Goals as goal

pub returns-in-AsOf : goal.returns-in-AsOf
returns-in-AsOf g c = answered-as (names g.N.Key.words g.N.Key.key g.N.Ord.cmp g.N.NameOrder.named g.N.NameOrder.name) c.args.self.now c.as_of_at.ensures (ap question_of c.in-AsOf.is) refl

pub returns-in-Total : goal.returns-in-Total
returns-in-Total g c = answered-as (names g.N.Key.words g.N.Key.key g.N.Ord.cmp g.N.NameOrder.named g.N.NameOrder.name) c.args.self.now c.total_at.ensures (ap question_of c.in-Total.is) refl

pub returns-in-FirstName : goal.returns-in-FirstName
returns-in-FirstName g c = answered-as (names g.N.Key.words g.N.Key.key g.N.Ord.cmp g.N.NameOrder.named g.N.NameOrder.name) c.args.self.now c.first_name_at.ensures (ap question_of c.in-FirstName.is) refl

pub returns-in-NextName : goal.returns-in-NextName
returns-in-NextName g c = answered-as (names g.N.Key.words g.N.Key.key g.N.Ord.cmp g.N.NameOrder.named g.N.NameOrder.name) c.args.self.now c.next_name_at.ensures (ap question_of c.in-NextName.is) refl
