-- The steps of a migration, and which comes behind which.
use Rattle.std.specs.Prelude.{◌≡◌, ℕ, Bool, true, false, not, List, [], ◌∷◌, Option, Some, None, if◌then◌else◌}
use Rattle.pg_migrate.specs.declared.migration.Migration.{Migration}
use Rattle.pg_migrate.specs.Orders.{Statement, Begin, Commit, Script, apply_statements, in_transaction, revert_statements, row_of, time_of, without_row}
use Rattle.pg_migrating.specs.declared.course.Step.{Step}
use Rattle.pg_migrating.specs.declared.course.Step.TheVariants as steps
use Rattle.pg_migrating.specs.declared.course.Way.{Way}
use Rattle.pg_migrating.specs.declared.course.Way.TheVariants as ways

-- what is to be done
pub record WorkSeen : Type 0 where
  pub way : Way
  pub table : List ℕ
  pub migration : Migration

abbrev pub first_step : Bool → Step
first_step no_tx = if no_tx then steps.Script else steps.Begin

-- the step behind the last one of the transaction: only what was applied has its time noted
abbrev pub timed : Way → Option Step
timed ways.Apply = Some steps.Time
timed ways.Revert = None

abbrev pub next_step : Way → Bool → Step → Option Step
next_step way no_tx steps.Begin = Some steps.Script
next_step way no_tx steps.Script = Some steps.Row
next_step way no_tx steps.Row = if no_tx then timed way else Some steps.Commit
next_step way no_tx steps.Commit = timed way
next_step way no_tx steps.Time = None

-- the step of such a migration
abbrev pub IsStepOf : Way → Bool → Step → Type 0
IsStepOf way no_tx steps.Begin = no_tx ≡ false
IsStepOf way no_tx steps.Commit = no_tx ≡ false
IsStepOf ways.Revert no_tx steps.Time = ⊥
IsStepOf way no_tx step = Unit {0}

-- the last step whose time is taken
abbrev pub ends_work : Bool → Step → Bool
ends_work no_tx steps.Row = no_tx
ends_work no_tx steps.Commit = true
ends_work no_tx _ = false

-- a transaction is open while it is asked
abbrev pub is_open_at : Bool → Step → Bool
is_open_at no_tx steps.Begin = false
is_open_at no_tx steps.Time = false
is_open_at no_tx _ = not no_tx

-- how many steps may come behind it
abbrev pub rank : Step → ℕ
rank steps.Begin = 4
rank steps.Script = 3
rank steps.Row = 2
rank steps.Commit = 1
rank steps.Time = 0

-- ---- their statements

abbrev pub row_by : Way → List ℕ → Migration → Statement
row_by ways.Apply table m = row_of table m
row_by ways.Revert table m = without_row table m

abbrev pub statement_by : Way → List ℕ → Migration → ℕ → Step → Statement
statement_by way table m nanos steps.Begin = Begin
statement_by way table m nanos steps.Script = Script m.sql
statement_by way table m nanos steps.Row = row_by way table m
statement_by way table m nanos steps.Commit = Commit
statement_by way table m nanos steps.Time = time_of table m nanos

abbrev pub behind_begin : Bool → List Statement → List Statement
behind_begin no_tx statements = if no_tx then statements else Begin ∷ statements

-- those before a step
abbrev pub before_by : Way → Bool → List ℕ → Migration → Step → List Statement
before_by way no_tx table m steps.Begin = []
before_by way no_tx table m steps.Script = behind_begin no_tx []
before_by way no_tx table m steps.Row = behind_begin no_tx (Script m.sql ∷ [])
before_by way no_tx table m steps.Commit = behind_begin no_tx (Script m.sql ∷ row_by way table m ∷ [])
before_by way no_tx table m steps.Time = in_transaction no_tx (Script m.sql ∷ row_by way table m ∷ [])

-- and all of them
abbrev pub statements_by : Way → List ℕ → Migration → ℕ → List Statement
statements_by ways.Apply table m nanos = apply_statements table m nanos
statements_by ways.Revert table m nanos = revert_statements table m

abbrev pub row_at : WorkSeen → Statement
row_at w = row_by w.way w.table w.migration

abbrev pub statement_at : WorkSeen → ℕ → Step → Statement
statement_at w nanos step = statement_by w.way w.table w.migration nanos step

abbrev pub before : WorkSeen → Step → List Statement
before w step = before_by w.way w.migration.no_tx w.table w.migration step

abbrev pub statements_of : WorkSeen → ℕ → List Statement
statements_of w nanos = statements_by w.way w.table w.migration nanos
