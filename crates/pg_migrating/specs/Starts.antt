-- The start-up of a session over a dial.
use Rattle.std.specs.Prelude.{◌≡◌, false, Result, Ok, Err}
use Rattle.pg_wire.specs.declared.error.Error.{Error}
use Rattle.pg_stream.specs.Links.{LinkSeen}
use Rattle.pg_migrating.specs.Sessions.{FailsBehind, Opening, WaitsBehind}
use Rattle.pg_migrating.specs.declared.opening.Begun.{Begun}
use Rattle.pg_migrating.specs.declared.opening.Stage.{Stage}
use Rattle.pg_migrating.specs.declared.opening.Stage.TheVariants as stages
use Rattle.pg_migrating.specs.declared.opening.Start.{Start}

abbrev pub at_stage : {A : Type 0} → Stage A → Start A
at_stage stage = record { stage = stage }

-- its start-up is under way, behind which this is asked; or there is none
abbrev pub BeginsStart : {D A : Type 0} → (A → LinkSeen) → Opening D (Start A) A → D → Stage A → D → Result (Begun A) Error → Type 0
BeginsStart seen o d stage e (Ok begun) = (begun.start.startup.is_finished ≡ false) × WaitsBehind o d (at_stage stage) e (at_stage (stages.Begun begun.demand begun.start))
BeginsStart seen o d stage e (Err error) = FailsBehind seen o d (at_stage stage) e error
