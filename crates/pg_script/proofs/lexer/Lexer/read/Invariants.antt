use Rattle.std.proofs.Common.{◌≡◌, [], length}
use Rattle.pg_script.specs.Lexing.{tokens_in, at, lexed}
use Rattle.pg_script.specs.Lexing.{Mode as modes}
use Rattle.pg_script.proofs.lexer.Lexer.read.Given as goal

abbrev pub invariant-loop-next : goal.invariant-loop-next
invariant-loop-next l = lexed (at l.self.tokens.items [] modes.Word) l.rest ≡ tokens_in l.line

abbrev pub decreases-loop-next : goal.decreases-loop-next
decreases-loop-next l = length l.rest
