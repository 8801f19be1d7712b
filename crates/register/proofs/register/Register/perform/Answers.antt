use Rattle.std.proofs.Common.{sym, refl, ap, ◌∙◌}
use Rattle.register.proofs.Telling.{told-as}
use Rattle.register.specs.Calls.{Handle, abandons, begins, branches, commits, retires, stows}
use Rattle.register.specs.Contents.{names}
use Rattle.register.specs.Plain.{action_of}
use Rattle.register.proofs.register.Register.perform.Goals as goal

pub returns-in-Branch-clause-told : goal.returns-in-Branch-clause-told
returns-in-Branch-clause-told g c =
    told-as (names g.N.Key.words g.N.Key.key g.N.Ord.cmp g.N.NameOrder.named g.N.NameOrder.name) c.args.self.now c.branch-self.new.self c.branch-self.ensures.told (ap action_of c.in-Branch.is ∙ ap (λ (h : Handle). branches h) (sym c.line.ensures)) c.branched.ensures.answer

pub returns-in-Begin-clause-told : goal.returns-in-Begin-clause-told
returns-in-Begin-clause-told g c =
    told-as (names g.N.Key.words g.N.Key.key g.N.Ord.cmp g.N.NameOrder.named g.N.NameOrder.name) c.args.self.now c.begin.new.self c.begin.ensures.told (ap action_of c.in-Begin.is ∙ ap (λ (h : Handle). begins h c.in-Begin.recorded) (sym c.line-in-Begin.ensures)) c.turned.ensures.answer

pub returns-in-Enter-clause-told : goal.returns-in-Enter-clause-told
returns-in-Enter-clause-told g c =
    told-as (names g.N.Key.words g.N.Key.key g.N.Ord.cmp g.N.NameOrder.named g.N.NameOrder.name) c.args.self.now c.enter_at.new.self c.enter_at.ensures.told (ap action_of c.in-Enter.is) refl

pub returns-in-Commit-clause-told : goal.returns-in-Commit-clause-told
returns-in-Commit-clause-told g c =
    told-as (names g.N.Key.words g.N.Key.key g.N.Ord.cmp g.N.NameOrder.named g.N.NameOrder.name) c.args.self.now c.commit.new.self c.commit.ensures.told (ap action_of c.in-Commit.is ∙ ap (λ (h : Handle). commits h) (sym c.sitting.ensures)) c.turned-in-Commit.ensures.answer

pub returns-in-Abandon-clause-told : goal.returns-in-Abandon-clause-told
returns-in-Abandon-clause-told g c =
    told-as (names g.N.Key.words g.N.Key.key g.N.Ord.cmp g.N.NameOrder.named g.N.NameOrder.name) c.args.self.now c.abandon.new.self c.abandon.ensures.told (ap action_of c.in-Abandon.is ∙ ap (λ (h : Handle). abandons h) (sym c.sitting-in-Abandon.ensures)) c.turned-in-Abandon.ensures.answer

pub returns-in-Stow-clause-told : goal.returns-in-Stow-clause-told
returns-in-Stow-clause-told g c =
    told-as (names g.N.Key.words g.N.Key.key g.N.Ord.cmp g.N.NameOrder.named g.N.NameOrder.name) c.args.self.now c.stow.new.self c.stow.ensures.told (ap action_of c.in-Stow.is ∙ ap (λ (h : Handle). stows h c.in-Stow.letter) (sym c.line-in-Stow.ensures)) c.spent.ensures.answer

pub returns-in-Fetch-clause-told : goal.returns-in-Fetch-clause-told
returns-in-Fetch-clause-told g c =
    told-as (names g.N.Key.words g.N.Key.key g.N.Ord.cmp g.N.NameOrder.named g.N.NameOrder.name) c.args.self.now c.fetch.new.self c.fetch.ensures.told (ap action_of c.in-Fetch.is) c.handed-in-Fetch.ensures.answer

pub returns-in-Retire-clause-told : goal.returns-in-Retire-clause-told
returns-in-Retire-clause-told g c =
    told-as (names g.N.Key.words g.N.Key.key g.N.Ord.cmp g.N.NameOrder.named g.N.NameOrder.name) c.args.self.now c.retire.new.self c.retire.ensures.told (ap action_of c.in-Retire.is ∙ ap (λ (h : Handle). retires h) (sym c.line-in-Retire.ensures)) c.spent-in-Retire.ensures.answer

pub returns-in-Open-clause-told : goal.returns-in-Open-clause-told
returns-in-Open-clause-told g c = told-as (names g.N.Key.words g.N.Key.key g.N.Ord.cmp g.N.NameOrder.named g.N.NameOrder.name) c.args.self.now c.open_line.new.self c.open_line.ensures.told (ap action_of c.in-Open.is) c.handed.ensures.answer
