-- The text of a report.
use Rattle.std.specs.Prelude.{◌+◌, ◌∷◌, ◌++◌, [], List, ℕ, Result, Ok, Err, codes}
use Rattle.std.specs.Fmt.{decimal}
use Rattle.pg_wire.specs.declared.error.Error.{Error}
use Rattle.pg_report.specs.declared.outcome.Started.{Started}
use Rattle.pg_report.specs.declared.outcome.Outcome.{Outcome}
use Rattle.pg_report.specs.Bytes.{hex_or_dash, named_number}
use Rattle.pg_report.specs.Errors.{error_text}
use Rattle.pg_report.specs.Steps.{step_lines}

unfoldable pub start_line : Result Started Error → List ℕ
start_line (Ok s) = named_number (codes "start ok") s.sent ++ 32 ∷ decimal s.read ++ 10 ∷ []
start_line (Err error) = codes "start error " ++ error_text error ++ 10 ∷ []

-- the steps, the first of which has this number
unfoldable pub steps_from : ℕ → List Outcome → List ℕ
steps_from number [] = []
steps_from number (o ∷ os) = step_lines number o ++ steps_from (number + 1) os

unfoldable pub sent_line : List ℕ → List ℕ
sent_line sent = codes "sent " ++ hex_or_dash sent ++ 10 ∷ []

unfoldable pub report : Result Started Error → List Outcome → List ℕ → List ℕ
report start outcomes sent = start_line start ++ steps_from 1 outcomes ++ sent_line sent

-- of a link that tells no bytes
unfoldable pub live_report : Result Started Error → List Outcome → List ℕ
live_report start outcomes = start_line start ++ steps_from 1 outcomes
