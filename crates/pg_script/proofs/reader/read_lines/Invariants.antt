use Rattle.std.proofs.Common.{◌≡◌, ◌≤◌, ◌+◌, length}
use Rattle.pg_script.specs.Scripts.{empty_script, lines_of, read_from}
use Rattle.pg_script.proofs.reader.read_lines.Given as goal

abbrev pub invariant-loop-lexer : goal.invariant-loop-lexer
invariant-loop-lexer l = record {
  short : l.number + length l.rest ≤ 67108864;
  reads : read_from l.kind l.number l.script (lines_of l.rest) ≡ read_from l.kind 0 empty_script (lines_of l.text);
}

abbrev pub decreases-loop-lexer : goal.decreases-loop-lexer
decreases-loop-lexer l = length l.rest
