use Rattle.std.proofs.Common.{◌≡◌, ◌++◌, ℕ, List}
use Rattle.std.specs.Str.Iter.{chars_rest}
use Rattle.pg_options.specs.Escaping.{escaped}
use Rattle.pg_options.proofs.escaping.PgOptionsWriteEscaped.write_str.Given as goal

-- what is written is a front of the text
abbrev pub invariant-loop-ch : goal.invariant-loop-ch
invariant-loop-ch l =
    (front : List ℕ) × (l.text ≡ front ++ chars_rest l.ch-iterator) × (l.self ≡ l.initial.self ++ escaped front)
