-- What the calls of migrations answer.
use Rattle.std.specs.Prelude.{◌≡◌, ◌⊎◌, ℕ, ℤ, List, [], ◌∷◌, Option, Some, None, Result, Ok, Err, Contains}
use Rattle.std.specs.Int.{w64}
use Rattle.futures.specs.declared.task.Poll.{Poll}
use Rattle.futures.specs.declared.task.Poll.TheVariants.{Ready, Pending}
use Rattle.pg_wire.specs.declared.error.Error.{Error}
use Rattle.pg_wire.specs.declared.error.Error.TheVariants as errors
use Rattle.pg_stream.specs.Links.{LinkSeen}
use Rattle.pg_values.specs.declared.format.PgValueFormat.{PgValueFormat}
use Rattle.pg_values.specs.Values.{ReadsBy, IsSigned, IsDecimal, IsTextOf, AreBytesOf, AreHexOf}
use Rattle.pg_arguments.specs.Types.{TypeParts}
use Rattle.pg_rows.specs.Rows.{RowSeen, Reads, Misreads}
use Rattle.pg_call.specs.declared.answer.CallAnswer.{CallAnswer}
use Rattle.pg_call.specs.declared.answer.CallAnswer.TheVariants as answers
use Rattle.pg_call.specs.declared.answer.Turn.{Turn}
use Rattle.pg_call.specs.declared.answer.Turn.TheVariants as turns
use Rattle.pg_call.specs.declared.request.Request.{Request}
use Rattle.pg_conn.specs.Connections.{ConnOf}
use Rattle.pg_migrate.specs.declared.migration.AppliedMigration.{AppliedMigration}
use Rattle.pg_migrate.specs.declared.migration.MigrateError.{MigrateError}
use Rattle.pg_migrate.specs.declared.migration.MigrateError.TheVariants as failed
use Rattle.pg_migrating.specs.Asking.{StandsAt, Answers, IsUnasked}

-- ---- a call of one statement

-- what is made of its end: of its answer, or of an error, which is handed on
abbrev pub EndsBy : {X : Type 0} → (CallAnswer → X → Type 0) → (CallAnswer → Error → Type 0) → Turn → Result X MigrateError → Type 0
EndsBy reads misreads (turns.Ok answer) (Ok x) = reads answer x
EndsBy reads misreads (turns.Ok answer) (Err (failed.Execute e)) = misreads answer e
EndsBy reads misreads (turns.Err e) (Err (failed.Execute f)) = f ≡ e
EndsBy reads misreads _ _ = ⊥

-- What a poll tells, whatever connection the call was begun on: at Ok, what is read of the call's answer; else its error, or that there was no
-- request, or that its answer can't be read.
abbrev pub TellsBy : {A X : Type 0} → (CallAnswer → X → Type 0) → (CallAnswer → Error → Type 0) → (A → LinkSeen) → Result Request Error → ConnOf A → ConnOf A → Poll (Result X MigrateError) → Type 0
TellsBy reads misreads seen asked a b Pending = StandsAt seen asked a None b
TellsBy reads misreads seen asked a b (Ready (Ok x)) = (answer : CallAnswer) × Answers seen asked a b (turns.Ok answer) × reads answer x
TellsBy reads misreads seen asked a b (Ready (Err (failed.Execute e))) = (Answers seen asked a b (turns.Err e) ⊎ IsUnasked asked a b e) ⊎ ((answer : CallAnswer) × Answers seen asked a b (turns.Ok answer) × misreads answer e)
TellsBy reads misreads seen asked a b (Ready (Err (failed.ExecuteMigration e version))) = ⊥

-- an answer of which nothing is told
abbrev pub is_done : CallAnswer → Unit {0} → Type 0
is_done answer u = Unit {0}

abbrev pub never : CallAnswer → Error → Type 0
never answer e = ⊥

-- its end as that of a migration's call
abbrev pub IsTold : {X : Type 0} → Result X Error → Result X MigrateError → Type 0
IsTold (Ok x) (Ok y) = y ≡ x
IsTold (Err e) (Err (failed.Execute f)) = f ≡ e
IsTold _ _ = ⊥

-- ---- values in rows

abbrev pub int8 : TypeParts → PgValueFormat → Option (List ℕ) → ℤ → Type 0
int8 of = ReadsBy (IsSigned w64) (IsDecimal w64)

abbrev pub text : TypeParts → PgValueFormat → Option (List ℕ) → List ℕ → Type 0
text of = ReadsBy IsTextOf IsTextOf

abbrev pub bytea : TypeParts → PgValueFormat → Option (List ℕ) → List ℕ → Type 0
bytea of = ReadsBy AreBytesOf AreHexOf

-- ---- the first version whose migration did not end well: that of the first row

abbrev pub IsDirty : CallAnswer → Option ℤ → Type 0
IsDirty (answers.OneRow None) None = Unit {0}
IsDirty (answers.OneRow (Some row)) (Some version) = Reads int8 row 0 version
IsDirty _ _ = ⊥

abbrev pub HidesDirty : CallAnswer → Error → Type 0
HidesDirty (answers.OneRow (Some row)) e = Misreads int8 row 0 e
HidesDirty _ e = ⊥

-- ---- the migrations that were applied, a row for each, in order

pub record IsApplied (row : RowSeen) (applied : AppliedMigration) : Type 0 where
  pub version : Reads int8 row 0 applied.version
  pub checksum : Reads bytea row 1 applied.checksum

abbrev pub HidesApplied : RowSeen → Error → Type 0
HidesApplied row e = Misreads int8 row 0 e ⊎ Misreads bytea row 1 e

abbrev pub AllApplied : List RowSeen → List AppliedMigration → Type 0
AllApplied [] [] = Unit {0}
AllApplied (row ∷ rows) (applied ∷ more) = IsApplied row applied × AllApplied rows more
AllApplied _ _ = ⊥

abbrev pub AreApplied : CallAnswer → List AppliedMigration → Type 0
AreApplied (answers.Rows rows) applied = AllApplied rows applied
AreApplied _ applied = ⊥

-- some row of them can't be read; want of memory is free
abbrev pub HidesSome : List RowSeen → Error → Type 0
HidesSome rows errors.OutOfMemory = Unit {0}
HidesSome rows e = (row : RowSeen) × Contains rows row × HidesApplied row e

abbrev pub HideApplied : CallAnswer → Error → Type 0
HideApplied (answers.Rows rows) e = HidesSome rows e
HideApplied _ e = ⊥
