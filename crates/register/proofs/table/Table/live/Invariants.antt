use Rattle.std.proofs.Common.{◌≡◌, take}
use Rattle.register.specs.Tables.{live}
use Rattle.register.proofs.table.Table.live.Given as goal

-- the live lines among those passed so far
abbrev pub invariant-loop-line : goal.invariant-loop-line
invariant-loop-line l = l.count ≡ live (take l.line-index l.self.lines)
