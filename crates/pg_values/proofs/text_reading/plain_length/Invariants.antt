use Rattle.std.proofs.Common.{take}
use Rattle.std.specs.Prelude.{IsTrue}
use Rattle.std.specs.List.{AllByRecursion}
use Rattle.pg_values.specs.Texts.{is_plain}
use Rattle.pg_values.proofs.text_reading.plain_length.Given as goal

abbrev pub invariant-loop-place : goal.invariant-loop-place
invariant-loop-place l = AllByRecursion (λ c. IsTrue (is_plain l.style c)) (take l.place l.bytes)
