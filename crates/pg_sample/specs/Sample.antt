-- The script of a sample, as a value of the number of its steps.
use Rattle.std.specs.Prelude.{ℕ, ◌+◌, ◌-◌, ◌%◌, ◌^◌, ◌++◌, ◌∷◌, [], List, Some, codes, decimal, map, flat_map, nat_eq, if◌then◌else◌}
use Rattle.std.specs.List.{range_with_len}
use Rattle.pg_wire.specs.Bytes.{number16, number32}
use Rattle.pg_wire.specs.Frame.{text_of}
use Rattle.pg_wire.specs.Backend.{BackendMessage, backend_frame, Authentication, ReadyForQuery, RowDescription, DataRow, CommandComplete}
use Rattle.pg_wire.specs.Exchanges.{one_column}
use Rattle.pg_wire.specs.declared.status.TransactionStatus.TheVariants.{Idle}
use Rattle.pg_request.specs.Queries.{plain_text}
use Rattle.pg_stream.specs.declared.events.ReadEvent.{ReadEvent}
use Rattle.pg_stream.specs.declared.events.ReadEvent.TheVariants.{Piece, Wait}
use Rattle.pg_request.specs.Queries.{plain_text}
use Rattle.pg_script.specs.declared.script.Script.{Script}
use Rattle.pg_script.specs.declared.step.Step.{Step}
use Rattle.pg_script.specs.declared.step.Call.TheVariants.{FetchAll}
use Rattle.pg_script.specs.Scripts.{empty_script}

-- the bytes of a server's messages
abbrev pub spelled : List BackendMessage → List ℕ
spelled messages = text_of (map backend_frame messages)

-- ---- what the server says

-- AuthenticationOk, and ReadyForQuery outside a transaction
abbrev pub greeting : List BackendMessage
greeting = Authentication 0 [] ∷ ReadyForQuery Idle ∷ []

-- the response to a query of one row, with this value of the type int4
abbrev pub response : List ℕ → List BackendMessage
response value = RowDescription (one_column ∷ []) ∷ DataRow (Some value ∷ []) ∷ CommandComplete (codes "SELECT 1") ∷ ReadyForQuery Idle ∷ []

-- Internal: the front of DataRow of one value of this length.
abbrev pub row_head : ℕ → List ℕ
row_head length = 68 ∷ number32 (length + 10) ++ number16 1 ++ number32 length

-- nothing comes once before each third response
abbrev pub wait_before : ℕ → List ReadEvent
wait_before k = if nat_eq (k % 3) 0 then Wait ∷ [] else []

abbrev pub events_of : ℕ → List ReadEvent
events_of k = wait_before k ++ Piece (spelled (response (decimal k))) ∷ []

abbrev pub events_said : ℕ → List ReadEvent
events_said count = Piece (spelled greeting) ∷ flat_map events_of (range_with_len 1 count)

-- ---- what is asked

-- each step asks for its own number, and has one poll
abbrev pub step_of : ℕ → Step
step_of k = record { call = FetchAll (plain_text (codes "SELECT " ++ decimal k)); polls = 1; most = 2 ^ 32 - 1 }

abbrev pub steps_said : ℕ → List Step
steps_said count = map step_of (range_with_len 1 count)

-- ---- the script

abbrev pub script_of : List ℕ → List ReadEvent → List Step → Script
script_of user events steps = record empty_script { user = Some user; events = events; steps = steps }

-- steps 1 to count of the user `u`
unfoldable pub sample_script : ℕ → Script
sample_script count = script_of (codes "u") (events_said count) (steps_said count)
