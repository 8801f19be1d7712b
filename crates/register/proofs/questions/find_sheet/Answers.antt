use Rattle.std.proofs.Common.{arith}
use Rattle.register.proofs.Finding.{sheet-found, sheet-high}
use Rattle.register.proofs.questions.find_sheet.Goals as goal

pub root_height-requires-2 : goal.root_height-requires-2
root_height-requires-2 c =
    let (t, carries, line) = c.requires.carried in
    (_, c.sheet_up_to-sheet.ensures t carries)

pub returns-then-root_height-gt-HIGHEST-2 : goal.returns-then-root_height-gt-HIGHEST-2
returns-then-root_height-gt-HIGHEST-2 c = λ t carries.
    let there = c.sheet_up_to-sheet.ensures t carries in
    sheet-high c.args.nodes.now t c.args.recorded
    (omega (arith, c.root_height.ensures t carries)) (omega (arith, c.root_height-2.ensures _ there))

pub returns : goal.returns
returns c = λ t carries.
    let there = c.sheet_up_to-sheet.ensures t carries in
    sheet-found c.args.nodes.now t c.args.recorded c.sheet_up_to-sheet.result there
    (omega (arith, c.root_height.ensures t carries)) (omega (arith, c.root_height-2.ensures _ there))
