use Rattle.std.proofs.Common.{◌≡◌, ◌++◌, ℕ, List, string_bytes}
use Rattle.std.specs.Str.Iter.{chars_rest}
use Rattle.pg_migrate.specs.Quoting.{doubled}
use Rattle.pg_migrate.proofs.quoting.put_all_doubled.Given as goal

-- what is written is a front of the text
abbrev pub invariant-loop-ch : goal.invariant-loop-ch
invariant-loop-ch l = (front : List ℕ) × (l.text ≡ front ++ chars_rest l.ch-iterator) × (string_bytes l.out ≡ string_bytes l.initial.out ++ doubled l.mark front)
