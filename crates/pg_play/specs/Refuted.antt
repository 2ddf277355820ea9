-- What no play tells of a reply with one row, the value `1`.
use Rattle.std.specs.Prelude.{◌≡◌, List, [], ◌∷◌, codes, Some}
use Rattle.pg_wire.specs.Frame.{Frame}
use Rattle.pg_wire.specs.Exchanges.{selected}
use Rattle.pg_request.specs.declared.query.Query.{Query}
use Rattle.pg_call.specs.Requests.{Group}
use Rattle.pg_report.specs.declared.outcome.Item.TheVariants.{Row}
use Rattle.pg_report.specs.declared.outcome.Answer.TheVariants.{Unit as AnswersUnit, Total}
use Rattle.pg_report.specs.declared.outcome.End.TheVariants as ends
use Rattle.pg_report.specs.declared.outcome.Outcome.{Outcome}
use Rattle.pg_script.specs.declared.step.Call.{Call}
use Rattle.pg_script.specs.declared.step.Call.TheVariants as calls
use Rattle.pg_script.specs.declared.step.Step.{Step}
use Rattle.pg_play.specs.Places.{Place, main_frames}
use Rattle.pg_play.specs.Told.{Told, Carry}

-- an exchange of this call whose own reply is that of `SELECT 1`, and what its outcome tells
pub record TellsSelected (call : Call) (out : Outcome) : Type 0 where
  pub at : Place
  pub step : Step
  pub own : List Group
  pub slice : List Frame
  pub next : Place
  pub calls : step.call ≡ call
  pub told : Told at step out own slice next
  pub replied : Carry (main_frames at own slice) selected

-- the total 0, of a statement that counts one row
abbrev pub NoTotalOfZero : Type 0
NoTotalOfZero = (query : Query) (out : Outcome) → TellsSelected (calls.Execute query) out → out.end ≡ ends.Ok (Total 0) → ⊥

-- Ok without the row
abbrev pub NoOkWithoutRow : Type 0
NoOkWithoutRow = (query : Query) (out : Outcome) → TellsSelected (calls.FetchAll query) out → out.end ≡ ends.Ok AnswersUnit → out.items ≡ [] → ⊥

-- another row than that of its own reply, as one of a dropped call would be
abbrev pub NoOtherRow : Type 0
NoOtherRow = (query : Query) (out : Outcome) → TellsSelected (calls.FetchAll query) out → out.items ≡ Row (Some (codes "2") ∷ []) ∷ [] → ⊥
