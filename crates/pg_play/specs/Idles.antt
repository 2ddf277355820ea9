-- When a server's session is idle: no transaction is open in it (PostgreSQL manual, "Message Formats", ReadyForQuery).
use Rattle.std.specs.Prelude.{◌≡◌, ◌≢◌, ℕ, ◌+◌, false, List, [], ◌∷◌, length, map, filter, codes, slice_get, Some}
use Rattle.pg_wire.specs.declared.status.TransactionStatus.{TransactionStatus}
use Rattle.pg_wire.specs.Frame.{Frame}
use Rattle.pg_wire.specs.Parts.{is_ready}
use Rattle.pg_wire.specs.Backend.{backend_frame, ReadyForQuery}
use Rattle.pg_wire.specs.Frontend.{Query}
use Rattle.pg_call.specs.Requests.{Group}
use Rattle.pg_conn.specs.Connections.{rollback}
use Rattle.pg_script.specs.declared.step.Call.TheVariants as calls
use Rattle.pg_script.specs.declared.step.Step.{Step}
use Rattle.pg_play.specs.Shown.{begins}
use Rattle.pg_play.specs.Places.{Place, ended}
use Rattle.pg_play.specs.Told.{HasNoError}

-- what each ReadyForQuery tells, from start-up's on
abbrev pub statuses : TransactionStatus → List Frame → List (List ℕ)
statuses first heard = map (λ frame. frame.body) (backend_frame (ReadyForQuery first) ∷ filter is_ready heard)

-- the one of this number, start-up's being 0, says idle, where it has come
abbrev pub SaysIdle : List (List ℕ) → ℕ → Type 0
SaysIdle told n = (body : List ℕ) → slice_get told n ≡ Some body → body ≡ codes "I"

-- What a server makes of the groups of an exchange, which are answered by the numbers behind those of the groups before.
pub record KeepsOrder (idle : ℕ → Type 0) (at : Place) (step : Step) (own cleanup : List Group) (slice : List Frame) (ended_at : Place) : Type 0 where
  -- only what is to begin a transaction opens one
  pub others : begins step.call ≡ false → own ≢ [] → idle (length at.groups) → idle (length at.groups + 1)
  -- COMMIT that is answered without an error ends the transaction, and ROLLBACK does (PostgreSQL manual, "SQL Commands")
  pub commits : step.call ≡ calls.Commit → own ≡ (Query (codes "COMMIT") ∷ []) ∷ [] → HasNoError slice → ended ended_at ≡ length ended_at.groups → idle (length at.groups + 1)
  pub rolls : step.call ≡ calls.Rollback → own ≡ rollback 0 ∷ [] → idle (length at.groups + 1)
  pub cleans : cleanup ≡ rollback 0 ∷ [] → idle (length at.groups + length own + 1)
  -- nor does what releases a lock open one
  pub releases : (text : List ℕ) → step.call ≡ calls.Release text → cleanup ≢ [] → idle (length at.groups) → idle (length at.groups + 1)
