use Rattle.std.proofs.Common.{arith}
use Rattle.register.proofs.Finding.{card-found, sheet-of-line}
use Rattle.register.specs.Contents.{names}
use Rattle.register.proofs.Readable.{readable}
use Rattle.register.proofs.questions.find_card.Goals as goal

pub card_of-card-requires : goal.card_of-card-requires
card_of-card-requires g c =
    let (t, carries, line) = c.requires.carried in
    readable _ _ c.requires.held (_, (c.in_ok-sheet.ensures t carries).1, (sheet-of-line c.args.recorded t line).sheet)

pub returns : goal.returns
returns g c = λ t carries.
    let there = c.card_of-card.ensures _ (c.in_ok-sheet.ensures t carries).1 in
    card-found (names g.N.Key.words g.N.Key.key g.N.Ord.cmp g.N.NameOrder.named g.N.NameOrder.name) c.args.nodes.now t c.args.recorded c.args.name c.in_ok-sheet.sheet c.card_of-card.result (c.in_ok-sheet.ensures t carries)
    (omega (arith, c.root_height.ensures _ there)) there
