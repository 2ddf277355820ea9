-- What is read of the answers.
use Rattle.std.proofs.Common.{◌≡◌, ℕ, ◌+◌, ◌<◌, inl, inr, List, ◌∷◌, ◌++◌, [], Result, Ok, Err, length, get_or, take, subst, ◌∙◌}
use Rattle.std.proofs.lemmas.List.{take_more}
use Rattle.futures.specs.declared.task.Poll.TheVariants.{Ready}
use Rattle.pg_wire.specs.declared.error.Error.{Error}
use Rattle.pg_stream.specs.Links.{LinkSeen}
use Rattle.pg_rows.specs.Rows.{RowSeen}
use Rattle.pg_call.specs.declared.answer.CallAnswer.{CallAnswer}
use Rattle.pg_call.specs.declared.answer.Turn.{Turn}
use Rattle.pg_call.specs.declared.answer.Turn.TheVariants as turns
use Rattle.pg_call.specs.declared.request.Request.{Request}
use Rattle.pg_conn.specs.Connections.{ConnOf}
use Rattle.pg_migrate.specs.declared.migration.AppliedMigration.{AppliedMigration}
use Rattle.pg_migrate.specs.declared.migration.MigrateError.{MigrateError}
use Rattle.pg_migrate.specs.declared.migration.MigrateError.TheVariants as failed
use Rattle.pg_migrating.specs.Asking.{Tells, TellsEnd}
use Rattle.pg_migrating.specs.Databases.{EndsBy as Ends}
use Rattle.pg_migrating.specs.Answers.{EndsBy, IsTold, TellsBy, IsApplied, AllApplied, is_done, never}

pub tells_by : {A X : Type 0} (reads : CallAnswer → X → Type 0) (misreads : CallAnswer → Error → Type 0) (seen : A → LinkSeen) (asked : Result Request Error) (first b : ConnOf A) (turn : Turn) (result : Result X MigrateError)
    → EndsBy reads misreads turn result → Tells seen asked first b (Ready turn) → TellsBy reads misreads seen asked first b (Ready result)
tells_by reads misreads seen asked first b (turns.Item item) result e t = absurd e
tells_by reads misreads seen asked first b (turns.Opened opened) result e t = absurd e
tells_by reads misreads seen asked first b (turns.Ok answer) (Ok x) e t = (answer, t, e)
tells_by reads misreads seen asked first b (turns.Ok answer) (Err (failed.Execute error)) e t = inr (answer, t, e)
tells_by reads misreads seen asked first b (turns.Ok answer) (Err (failed.ExecuteMigration error version)) e t = absurd e
tells_by reads misreads seen asked first b (turns.Err error) (Ok x) e t = absurd e
tells_by reads misreads seen asked first b (turns.Err error) (Err (failed.Execute other)) e t = inl (rw e t)
tells_by reads misreads seen asked first b (turns.Err error) (Err (failed.ExecuteMigration other version)) e t = absurd e

-- of an end that is told as that of a migration's call
pub ends_told : {X : Type 0} (reads : CallAnswer → X → Type 0) (misreads : CallAnswer → Error → Type 0) (turn : Turn) (end : Result X Error) (result : Result X MigrateError) → Ends reads misreads turn end → IsTold end result → EndsBy reads misreads turn result
ends_told reads misreads (turns.Item item) end result h t = absurd h
ends_told reads misreads (turns.Opened opened) end result h t = absurd h
ends_told reads misreads (turns.Ok answer) (Ok x) (Ok y) h t = rw t h
ends_told reads misreads (turns.Ok answer) (Ok x) (Err e) h t = absurd t
ends_told reads misreads (turns.Ok answer) (Err e) (Ok y) h t = absurd t
ends_told reads misreads (turns.Ok answer) (Err e) (Err (failed.Execute f)) h t = rw t h
ends_told reads misreads (turns.Ok answer) (Err e) (Err (failed.ExecuteMigration f version)) h t = absurd t
ends_told reads misreads (turns.Err error) (Ok x) result h t = absurd h
ends_told reads misreads (turns.Err error) (Err e) (Ok y) h t = absurd t
ends_told reads misreads (turns.Err error) (Err e) (Err (failed.Execute f)) h t = t ∙ h
ends_told reads misreads (turns.Err error) (Err e) (Err (failed.ExecuteMigration f version)) h t = absurd t

pub told_by : {A : Type 0} (seen : A → LinkSeen) (asked : Result Request Error) (first b : ConnOf A) (end : Result (Unit {0}) Error) (result : Result (Unit {0}) MigrateError) → IsTold end result → TellsEnd seen asked first b (Ready end) → TellsBy is_done never seen asked first b (Ready result)
told_by seen asked first b (Ok u) (Ok v) e t = (t.0, t.1, tt)
told_by seen asked first b (Ok u) (Err error) e t = absurd e
told_by seen asked first b (Err error) (Ok v) e t = absurd e
told_by seen asked first b (Err error) (Err (failed.Execute other)) e t = inl (rw e t)
told_by seen asked first b (Err error) (Err (failed.ExecuteMigration other version)) e t = absurd e

-- ---- the rows of the table of migrations

applied_push : (rows : List RowSeen) (applied : List AppliedMigration) (row : RowSeen) (one : AppliedMigration) → AllApplied rows applied → IsApplied row one → AllApplied (rows ++ row ∷ []) (applied ++ one ∷ [])
applied_push [] [] row one all is = (is, tt)
applied_push [] (x ∷ more) row one all is = absurd all
applied_push (r ∷ rows) [] row one all is = absurd all
applied_push (r ∷ rows) (x ∷ more) row one all is = (all.0, applied_push rows more row one all.1 is)

pub applied_more : (rows : List RowSeen) (i : ℕ) (row : RowSeen) (applied : List AppliedMigration) (one : AppliedMigration) → i < length rows → row ≡ get_or rows i row → AllApplied (take i rows) applied → IsApplied row one → AllApplied (take (i + 1) rows) (applied ++ one ∷ [])
applied_more rows i row applied one within is all new = rw (take_more rows i row within) (applied_push (take i rows) applied (get_or rows i row) one all (subst (λ (r : RowSeen). IsApplied r one) is new))
