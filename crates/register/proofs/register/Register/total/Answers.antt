use Rattle.std.proofs.Common.{sym, ◌∙◌, ltb-false, ltb-true}
use Rattle.tree.proofs.Bound.{kind_of}
use Rattle.register.proofs.Keeping.{the_places}
use Rattle.register.proofs.Responding.{crossed, total-answered, total-declined}
use Rattle.register.proofs.Passing.{passed}
use Rattle.register.specs.Calls.{asks, line_handle, total, total_answer}
use Rattle.register.specs.Contents.{names}
use Rattle.register.specs.Registers.{Answers, pool_of}
use Rattle.register.specs.Places.{owners_of}
use Rattle.pool.proofs.Pools.{sound-memory}
use Rattle.register.proofs.register.Register.total.Goals as goal

pub returns-in_err-card : goal.returns-in_err-card
returns-in_err-card g c =
    let self = c.args.self.now in
    passed (λ r. Answers (names g.N.Key.words g.N.Key.key g.N.Ord.cmp g.N.NameOrder.named g.N.NameOrder.name) self (asks (line_handle c.args.line.now) c.args.recorded (total c.args.name.now c.args.from c.args.to)) (total_answer r)) _ _ c.from_residual.ensures.1
    (λ s shows. total-declined (kind_of g.met.N.Key g.met.N.Ord.total) g.N.NameOrder.named g.N.NameOrder.name (pool_of self) self.table.lines self.next s shows (line_handle c.args.line.now) c.args.recorded c.ranges.recorded.fits c.args.name.now c.in_err-card.field-0.0 c.args.from c.args.to (c.in_err-card.ensures.told s shows))

pub returns-then-are_crossed : goal.returns-then-are_crossed
returns-then-are_crossed g c = λ s shows.
    let self = c.args.self.now in
    crossed (kind_of g.met.N.Key g.met.N.Ord.total) g.N.NameOrder.named g.N.NameOrder.name (pool_of self) self.table.lines self.next s shows (line_handle c.args.line.now) c.args.recorded c.ranges.recorded.fits c.args.name.now c.in_ok-card.card (c.in_ok-card.ensures.told s shows) c.in_ok-card.ensures.ready c.args.from c.args.to (ltb-true _ _ (sym c.are_crossed.ensures ∙ c.if-are_crossed.true))

pub total_between-requires : goal.total_between-requires
total_between-requires g c =
    let self = c.args.self.now in
    let (xs, k) = the_places (pool_of self) self.table.lines self.kept in
    let (t, carries, filed) = c.in_ok-card.ensures.ready in
    record { held = sound-memory (pool_of self) (owners_of xs) k.holds; carried = (t, carries, (filed.balanced, filed.by_time, filed.modest)) }

pub returns : goal.returns
returns g c = λ s shows.
    let self = c.args.self.now in
    total-answered (kind_of g.met.N.Key g.met.N.Ord.total) g.N.NameOrder.named g.N.NameOrder.name (pool_of self) self.table.lines self.next s shows (line_handle c.args.line.now) c.args.recorded c.ranges.recorded.fits c.args.name.now c.in_ok-card.card (c.in_ok-card.ensures.told s shows) c.in_ok-card.ensures.ready c.from.result c.from-2.result c.args.from c.args.to c.from.ensures c.from-2.ensures (ltb-false _ _ (sym c.are_crossed.ensures ∙ c.if-are_crossed.false)) c.total_between.result c.total_between.ensures.listed
