use Rattle.std.proofs.Common.{◌≡◌, [], List, take, drop}
use Rattle.pg_script.specs.Lexing.{at, lexed}
use Rattle.pg_script.specs.Lexing.{Mode as modes}
use Rattle.pg_script.specs.declared.token.Token.{Token}
use Rattle.pg_script.proofs.lexer.word_end.Given as goal

abbrev pub invariant-loop-i : goal.invariant-loop-i
invariant-loop-i l = (ts : List Token) → lexed (at ts [] modes.Word) l.bytes ≡ lexed (at ts (take l.i l.bytes) modes.Word) (drop l.i l.bytes)
