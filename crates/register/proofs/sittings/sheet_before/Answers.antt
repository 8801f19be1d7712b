use Rattle.std.proofs.Common.{sym, ◌∙◌, arith}
use Rattle.register.proofs.Beginning.{begin-high, begin-on}
use Rattle.register.proofs.sittings.sheet_before.Goals as goal

pub returns-then-root_height-gt-HIGHEST : goal.returns-then-root_height-gt-HIGHEST
returns-then-root_height-gt-HIGHEST c = λ t carries.
    begin-high c.args.nodes.now t c.args.recorded c.last-stage.result (c.last-stage.ensures.answered t carries)
    (sym c.is_not_after.ensures ∙ c.if-is_not_after.false) (omega (arith, c.root_height.ensures t carries))

pub returns : goal.returns
returns c = λ t carries.
    begin-on c.args.nodes.now t c.args.recorded c.last-stage.result (c.last-stage.ensures.answered t carries) c.sheet_of.result c.sheet_of.ensures
    (sym c.is_not_after.ensures ∙ c.if-is_not_after.false) (omega (arith, c.root_height.ensures t carries))
