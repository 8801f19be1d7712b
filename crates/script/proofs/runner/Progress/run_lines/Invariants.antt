use Rattle.std.proofs.Common.{◌+◌, ◌≤◌, length, None}
use Rattle.report.specs.Report.{KeepsRoom}
use Rattle.register.specs.Registers.{SameLoan}
use Rattle.script.specs.Lines.{lines_left}
use Rattle.script.specs.Standings.{Leads, Ready}
use Rattle.script.proofs.Turning.{OnWay}
use Rattle.script.proofs.runner.Progress.run_lines.Given as goal

-- the run is on its way, and its lines to come are those of the lines that are left
abbrev pub invariant-loop-line : goal.invariant-loop-line
invariant-loop-line l =
    let left = lines_left l.line-iterator in
    record {
      counted : l.self.lines + length left ≤ 32768;
      fewer : l.self.refused ≤ l.self.lines;
      same : KeepsRoom l.initial.report l.report;
      ready : Ready l.register l.seat;
      way : Leads l.initial.register None l.register l.seat (OnWay l.initial.report l.report l.fn.script left l.self.lines l.self.refused);
      loan : SameLoan l.initial.register l.register;
    }
