use Rattle.std.proofs.Common.{◌≡◌, drop}
use Rattle.pg_script.specs.Words.{begun}
use Rattle.pg_script.proofs.bare.begun.Given as goal

abbrev pub invariant-loop-first : goal.invariant-loop-first
invariant-loop-first l = begun (drop l.first-index l.words) l.word ≡ begun l.words l.word
