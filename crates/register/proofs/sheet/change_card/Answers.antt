use Rattle.std.proofs.Common.{subst, arith}
use Rattle.register.specs.Entries.{Stands}
use Rattle.register.proofs.Carding.{card-insertable, card-inserted, card-removed}
use Rattle.register.proofs.sheet.change_card.Goals as goal

pub insert-requires : goal.insert-requires
insert-requires c = record { ready = card-insertable c.args.pool.now c.args.card c.requires.ready }

pub returns-in-Some : goal.returns-in-Some
returns-in-Some c =
    record {
      owned = λ change t hs stands h.
          card-inserted c.args.pool.now c.insert.new.pool c.args.card c.insert.result c.args.measured c.in-Some.reading c.insert.ensures.owned change t hs
          (subst (Stands change) c.in-Some.is stands) h;
      used = c.insert.ensures.used;
      size = c.insert.ensures.size;
      lent = c.insert.ensures.lent;
    }

pub returns-in-None : goal.returns-in-None
returns-in-None c =
    record {
      owned = λ change t hs stands h.
          card-removed c.args.pool.now c.remove.new.pool c.args.card c.remove.result c.args.measured c.remove.ensures.owned change t hs
          (subst (Stands change) c.in-None.is stands) h;
      used = λ t carries. omega (arith, c.remove.ensures.used t carries);
      size = c.remove.ensures.size;
      lent = c.remove.ensures.lent;
    }
