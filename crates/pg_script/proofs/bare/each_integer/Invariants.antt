use Rattle.std.proofs.Common.{◌≡◌, ◌++◌, drop, map, Some, List, ℤ}
use Rattle.pg_script.specs.Reading.{◌>>=◌}
use Rattle.pg_script.specs.Words.{each_integer}
use Rattle.pg_script.proofs.bare.each_integer.Given as goal

abbrev pub invariant-loop-part : goal.invariant-loop-part
invariant-loop-part l = (each_integer (map (λ p. p.now) (drop l.part-index l.parts)) >>= λ (more : List ℤ). Some (l.numbers ++ more)) ≡ each_integer (map (λ p. p.now) l.parts)
