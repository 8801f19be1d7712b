use Rattle.std.proofs.Common.{◌∙◌, arith}
use Rattle.pool.proofs.Pools.{held-carries}
use Rattle.register.proofs.Sheeting.{card-changeable, entered-off, entered_on, entered-used, insertable, removable}
use Rattle.register.specs.Contents.{names}
use Rattle.register.proofs.sheet.change_in.Goals as goal

pub retain-requires : goal.retain-requires
retain-requires g c =
    let e = c.requires.ready in
    record { held = (_, e.holds, omega (arith, e.few)); carried = (_, c.requires.card e.t (held-carries _ _ _ _ e.holds)) }

pub change_card-card-requires : goal.change_card-card-requires
change_card-card-requires g c = record { ready = card-changeable (names g.N.Key.words g.N.Key.key g.N.Ord.cmp g.N.NameOrder.named g.N.NameOrder.name) c.args.name c.args.pool.now c.args.sheet c.requires.ready c.args.old c.requires.card c.retain.new.self c.retain.ensures.owned c.retain.ensures.used c.retain.ensures.size }

pub remove-requires : goal.remove-requires
remove-requires g c = record { ready = removable (names g.N.Key.words g.N.Key.key g.N.Ord.cmp g.N.NameOrder.named g.N.NameOrder.name) c.args.name c.args.pool.now c.args.sheet c.requires.ready c.args.old c.requires.card c.retain.new.self c.retain.ensures.owned c.retain.ensures.used c.retain.ensures.size c.args.measured c.args.reading c.change_card-card.result c.change_card-card.new.pool c.change_card-card.ensures.owned c.change_card-card.ensures.used c.change_card-card.ensures.size c.if-card-eq0.true }

pub put_card-requires : goal.put_card-requires
put_card-requires g c = record { ready = insertable (names g.N.Key.words g.N.Key.key g.N.Ord.cmp g.N.NameOrder.named g.N.NameOrder.name) c.args.name c.args.pool.now c.args.sheet c.requires.ready c.args.old c.requires.card c.retain.new.self c.retain.ensures.owned c.retain.ensures.used c.retain.ensures.size c.args.measured c.args.reading c.change_card-card.result c.change_card-card.new.pool c.change_card-card.ensures.owned c.change_card-card.ensures.used c.change_card-card.ensures.size }

pub returns-then-card-eq0 : goal.returns-then-card-eq0
returns-then-card-eq0 g c =
    record {
      owned = entered-off (names g.N.Key.words g.N.Key.key g.N.Ord.cmp g.N.NameOrder.named g.N.NameOrder.name) c.args.name c.args.pool.now c.args.sheet c.requires.ready c.args.old c.requires.card c.retain.new.self c.retain.ensures.owned c.retain.ensures.used c.retain.ensures.size c.args.measured c.args.reading c.change_card-card.result c.change_card-card.new.pool c.change_card-card.ensures.owned c.change_card-card.ensures.used c.change_card-card.ensures.size c.remove.result c.remove.new.pool c.if-card-eq0.true c.remove.ensures.owned;
      used = entered-used (names g.N.Key.words g.N.Key.key g.N.Ord.cmp g.N.NameOrder.named g.N.NameOrder.name) c.args.name c.args.pool.now c.args.sheet c.requires.ready c.args.old c.requires.card c.retain.new.self c.retain.ensures.owned c.retain.ensures.used c.retain.ensures.size c.args.measured c.args.reading c.change_card-card.result c.change_card-card.new.pool c.change_card-card.ensures.owned c.change_card-card.ensures.used c.change_card-card.ensures.size c.remove.result c.remove.new.pool (λ t carries. omega (arith, c.remove.ensures.used t carries));
      size = c.remove.ensures.size ∙ c.change_card-card.ensures.size ∙ c.retain.ensures.size;
      lent = c.remove.ensures.lent ∙ c.change_card-card.ensures.lent ∙ c.retain.ensures.lent;
    }

pub returns-else-card-eq0 : goal.returns-else-card-eq0
returns-else-card-eq0 g c =
    record {
      owned = entered_on (names g.N.Key.words g.N.Key.key g.N.Ord.cmp g.N.NameOrder.named g.N.NameOrder.name) c.args.name c.args.pool.now c.args.sheet c.requires.ready c.args.old c.requires.card c.retain.new.self c.retain.ensures.owned c.retain.ensures.used c.retain.ensures.size c.args.measured c.args.reading c.change_card-card.result c.change_card-card.new.pool c.change_card-card.ensures.owned c.change_card-card.ensures.used c.change_card-card.ensures.size c.put_card.result c.put_card.new.pool c.if-card-eq0.false c.put_card.ensures.owned;
      used = entered-used (names g.N.Key.words g.N.Key.key g.N.Ord.cmp g.N.NameOrder.named g.N.NameOrder.name) c.args.name c.args.pool.now c.args.sheet c.requires.ready c.args.old c.requires.card c.retain.new.self c.retain.ensures.owned c.retain.ensures.used c.retain.ensures.size c.args.measured c.args.reading c.change_card-card.result c.change_card-card.new.pool c.change_card-card.ensures.owned c.change_card-card.ensures.used c.change_card-card.ensures.size c.put_card.result c.put_card.new.pool c.put_card.ensures.used;
      size = c.put_card.ensures.size ∙ c.change_card-card.ensures.size ∙ c.retain.ensures.size;
      lent = c.put_card.ensures.lent ∙ c.change_card-card.ensures.lent ∙ c.retain.ensures.lent;
    }
