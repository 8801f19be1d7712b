use Rattle.std.proofs.Common.{◌++◌, get_or, take}
use Rattle.std.specs.List.{flat_map}
use Rattle.report.specs.Report.{text_of}
use Rattle.report.specs.Writing.{Added}
use Rattle.report.specs.declared.report.Piece.TheVariants.{Accepted}
use Rattle.report.proofs.LineText.{tabbed}
use Rattle.report.proofs.report.Report.put_line.Given as goal

abbrev pub invariant-loop-piece : goal.invariant-loop-piece
invariant-loop-piece l =
    Added l.fn.self (text_of (get_or l.pieces 0 Accepted) ++ flat_map tabbed (take l.piece-index l.rest)) l.self
