use Rattle.std.proofs.Common.{arith, length-append}
use Rattle.std.proofs.lemmas.List.Folds.{length-flat_map-take}
use Rattle.std.proofs.lemmas.List.{take_all}
use Rattle.report.specs.declared.report.Piece.TheVariants.{Accepted}
use Rattle.report.proofs.LineText.{length-line, line-none, line-split, rest, tabbed}
use Rattle.report.proofs.Writing.{lacking-then, writes-refused, writes_then}
use Rattle.report.proofs.report.Report.put_line.Goals as goal

pub returns-in_default : goal.returns-in_default
returns-in_default c = rw (line-none c.args.pieces.now (omega arith)) c.put.ensures

pub returns-in_err-put_piece : goal.returns-in_err-put_piece
returns-in_err-put_piece c =
    writes-refused _ _ c.from_residual.result c.from_residual.ensures.1
    (omega (arith, length-line Accepted c.args.pieces.now (omega arith)))
    c.in_err-put_piece.ensures

pub returns-in_err-put : goal.returns-in_err-put
returns-in_err-put c =
    writes-refused _ _ c.from_residual-in_err-put.result c.from_residual-in_err-put.ensures.1
    (simp length-append (omega (arith, length-line Accepted c.args.pieces.now (omega arith), length-flat_map-take tabbed (rest c.args.pieces.now) c.loop-piece.piece-index Accepted c.loop-piece-test.true)))
    (lacking-then c.loop-piece.invariant c.in_err-put.ensures)

pub returns-in_err-put_piece-2 : goal.returns-in_err-put_piece-2
returns-in_err-put_piece-2 c =
    writes-refused _ _ c.from_residual-in_err-put_piece-2.result c.from_residual-in_err-put_piece-2.ensures.1
    (simp length-append (omega (arith, length-line Accepted c.args.pieces.now (omega arith), length-flat_map-take tabbed (rest c.args.pieces.now) c.loop-piece.piece-index Accepted c.loop-piece-test.true)))
    (lacking-then c.loop-piece.invariant (lacking-then c.in_ok-put.ensures c.in_err-put_piece-2.ensures))

pub returns : goal.returns
returns c =
    let all = rw (take_all c.loop-piece.piece-index (rest c.args.pieces.now) c.loop-piece-test.false) at c.loop-piece.invariant in
    rw (line-split Accepted c.args.pieces.now (omega arith))
    (writes_then _ _ _ all c.put-2.ensures)
