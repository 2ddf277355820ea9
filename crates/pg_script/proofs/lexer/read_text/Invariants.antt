use Rattle.std.proofs.Common.{◌≡◌, ◌≤◌, ◌+◌, [], List, length, vec_len, vec_capacity}
use Rattle.pg_script.specs.Lexing.{at, lexed}
use Rattle.pg_script.specs.Lexing.{Mode as modes}
use Rattle.pg_script.specs.declared.token.Token.{Token}
use Rattle.pg_script.proofs.lexer.read_text.Given as goal

abbrev pub invariant-loop-behind : goal.invariant-loop-behind
invariant-loop-behind l = record {
  room : vec_len l.value + length l.rest ≤ vec_capacity l.value;
  short : length l.rest ≤ length l.text;
  read : (ts : List Token) → lexed (at ts [] modes.Text) l.text ≡ lexed (at ts l.value.items modes.Text) l.rest;
}

abbrev pub decreases-loop-behind : goal.decreases-loop-behind
decreases-loop-behind l = length l.rest
