-- Columns that are appended one behind the other.
use Rattle.std.proofs.Common.{◌≡◌, ℕ, suc, ◌+◌, ◌-◌, ◌≤◌, List, ◌++◌, sym, ap, ◌∙◌, append_assoc, arith}
use Rattle.pg_resolve.specs.Nullable.{more_column, more_columns}

pub columns_next : (start out now : List ℕ) (place : ℕ) → 1 ≤ place → out ≡ start ++ more_columns (place - 1) → now ≡ out ++ more_column place → now ≡ start ++ more_columns (place + 1 - 1)
columns_next start out now place some e f =
    let same : suc (place - 1) ≡ place = omega arith in
    let next : place + 1 - 1 ≡ suc (place - 1) = omega arith in
    f ∙ ap (λ (t : List ℕ). t ++ more_column place) e ∙ append_assoc start (more_columns (place - 1)) (more_column place)
    ∙ ap (λ (n : ℕ). start ++ (more_columns (place - 1) ++ more_column n)) (sym same) ∙ ap (λ (n : ℕ). start ++ more_columns n) (sym next)
