-- What was played in one line.
use Rattle.std.specs.Prelude.{◌+◌, ◌-◌, ◌^◌, ◌∷◌, ◌++◌, [], List, ℕ, Bool, true, false, Result, Ok, Err, codes, length, min, count_by, sum_by}
use Rattle.pg_wire.specs.declared.error.Error.{Error}
use Rattle.pg_report.specs.declared.outcome.Started.{Started}
use Rattle.pg_report.specs.declared.outcome.Outcome.{Outcome}
use Rattle.pg_report.specs.declared.outcome.Item.{Item}
use Rattle.pg_report.specs.declared.outcome.Item.TheVariants as items
use Rattle.pg_report.specs.declared.outcome.End.{End}
use Rattle.pg_report.specs.declared.outcome.End.TheVariants as ends
use Rattle.pg_report.specs.Bytes.{named_number}
use Rattle.pg_report.specs.Report.{start_line}

abbrev pub is_ok : End → Bool
is_ok (ends.Ok answer) = true
is_ok _ = false

abbrev pub is_dropped : End → Bool
is_dropped ends.Dropped = true
is_dropped _ = false

-- the steps that ended so
abbrev pub ended : (End → Bool) → List Outcome → ℕ
ended how outcomes = count_by (λ o. how o.end) outcomes

abbrev pub is_row : Item → Bool
is_row (items.Row values) = true
is_row _ = false

-- the rows among these items, and those before, up to u64's greatest value
abbrev pub rows_after : ℕ → List Item → ℕ
rows_after rows items = min (rows + count_by is_row items) (2 ^ 64 - 1)

-- the rows that all steps showed, up to u64's greatest value
abbrev pub rows_shown : List Outcome → ℕ
rows_shown outcomes = min (sum_by (λ o. count_by is_row o.items) outcomes) (2 ^ 64 - 1)

unfoldable pub summary_line : List Outcome → ℕ → List ℕ
summary_line outcomes sent =
    named_number (codes "steps") (length outcomes) ++ named_number (codes " ok") (ended is_ok outcomes) ++ named_number (codes " dropped") (ended is_dropped outcomes)
    ++ named_number (codes " rows") (rows_shown outcomes) ++ named_number (codes " sent") sent ++ 10 ∷ []

-- of a play over a link that took these bytes; a start-up that failed is told as in a report
unfoldable pub summary : Result Started Error → List Outcome → List ℕ → List ℕ
summary (Ok started) outcomes sent = summary_line outcomes (length sent)
summary (Err error) outcomes sent = start_line (Err error)
