use Rattle.std.proofs.Common.{rules}
use Rattle.script.proofs.Lexing.{new-parts}
use Rattle.script.proofs.lexer.Lexer.new.Goals as goal

pub returns-clause-parts : goal.returns-clause-parts
returns-clause-parts c = search (rules, new-parts)
