use Rattle.std.proofs.Common.{◌-◌, ◌≤◌, length}
use Rattle.audit.proofs.read_script.Given as goal

abbrev pub invariant-loop-read : goal.invariant-loop-read
invariant-loop-read l = l.read ≤ length l.initial.script

-- each turn reads at least one byte
abbrev pub decreases-loop-read : goal.decreases-loop-read
decreases-loop-read l = length l.initial.script - l.read
