use Rattle.std.proofs.Common.{◌≡◌, ◌-◌, cond, length, Some, None, sym, ap, ◌∙◌, arith, ltb-false, ltb-true, le-ltb, lt-ltb}
use Rattle.register.specs.Shapes.{Filed}
use Rattle.register.proofs.Entering.{by-conflict}
use Rattle.register.proofs.Filing.{filed-leaf}
use Rattle.register.proofs.Growing.{nested-find}
use Rattle.register.proofs.Passing.{passed}
use Rattle.register.specs.Contents.{names}
use Rattle.register.specs.Entries.{entry_refusal}
use Rattle.std.specs.Result.{result_err}
use Rattle.register.specs.declared.refusal.Refusal.TheVariants.{NodesShort}
use Rattle.register.proofs.Readable.{readable}
use Rattle.register.proofs.sheet.may_enter.Goals as goal

pub has_reading-requires : goal.has_reading-requires
has_reading-requires g c =
    let (t, carries, sturdy) = c.requires.carried in
    readable _ _ c.requires.held (_, c.card_of-card.ensures t carries, (nested-find Filed g.N.Key.key g.N.Ord.cmp filed-leaf c.args.name t sturdy.cards).balanced)

pub returns-in_err-conflict-clause-declined : goal.returns-in_err-conflict-clause-declined
returns-in_err-conflict-clause-declined g c = λ t carries.
    let card = c.card_of-card.ensures t carries in
    passed (λ r. result_err r ≡ entry_refusal (names g.N.Key.words g.N.Key.key g.N.Ord.cmp g.N.NameOrder.named g.N.NameOrder.name) t c.args.name c.args.measured c.args.change (length c.args.nodes.now - c.args.state.used)) _ _ c.from_residual.ensures.1
    (sym (by-conflict (names g.N.Key.words g.N.Key.key g.N.Ord.cmp g.N.NameOrder.named g.N.NameOrder.name) t c.args.name c.args.measured c.args.change _ c.has_reading.result (c.has_reading.ensures _ card)
    (omega (arith, c.root_height.ensures t carries)) (omega (arith, c.root_height-2.ensures _ card)) (Some c.in_err-conflict.field-0.0) c.in_err-conflict.ensures))

pub returns-then-is_short-clause-declined : goal.returns-then-is_short-clause-declined
returns-then-is_short-clause-declined g c = λ t carries.
    let card = c.card_of-card.ensures t carries in
    let few = lt-ltb (length c.args.nodes.now - c.args.state.used) 256 (omega (arith, c.available.ensures, ltb-true _ _ (sym c.is_short.ensures ∙ c.if-is_short.true))) in
    sym (by-conflict (names g.N.Key.words g.N.Key.key g.N.Ord.cmp g.N.NameOrder.named g.N.NameOrder.name) t c.args.name c.args.measured c.args.change (length c.args.nodes.now - c.args.state.used) c.has_reading.result (c.has_reading.ensures _ card)
    (omega (arith, c.root_height.ensures t carries)) (omega (arith, c.root_height-2.ensures _ card)) None c.in_ok-conflict.ensures ∙ ap (λ b. cond b (Some NodesShort) None) few)

pub returns-clause-declined : goal.returns-clause-declined
returns-clause-declined g c = λ t carries.
    let card = c.card_of-card.ensures t carries in
    let few = le-ltb (length c.args.nodes.now - c.args.state.used) 256 (omega (arith, c.available.ensures, ltb-false _ _ (sym c.is_short.ensures ∙ c.if-is_short.false))) in
    sym (by-conflict (names g.N.Key.words g.N.Key.key g.N.Ord.cmp g.N.NameOrder.named g.N.NameOrder.name) t c.args.name c.args.measured c.args.change (length c.args.nodes.now - c.args.state.used) c.has_reading.result (c.has_reading.ensures _ card)
    (omega (arith, c.root_height.ensures t carries)) (omega (arith, c.root_height-2.ensures _ card)) None c.in_ok-conflict.ensures ∙ ap (λ b. cond b (Some NodesShort) None) few)
