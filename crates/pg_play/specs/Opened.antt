-- Internal: a copy from the client that is open, as a step feeds it.
use Rattle.std.specs.Prelude.{◌<◌, ◌^◌, ℕ, Bool, false, List}
use Rattle.pg_call.specs.declared.request.Request.{Request}
use Rattle.pg_call.specs.declared.request.Request.TheVariants as requests
use Rattle.pg_conn.specs.Connections.{ConnSeen}
use Rattle.pg_report.specs.declared.outcome.Item.{Item}
use Rattle.pg_report.specs.declared.outcome.Outcome.{Outcome}
use Rattle.pg_script.specs.declared.step.Copying.{Copying}
use Rattle.pg_script.specs.declared.step.Fed.{Fed}
use Rattle.pg_script.specs.declared.step.Parting.{Parting}
use Rattle.pg_script.specs.declared.step.Parting.TheVariants as partings
use Rattle.pg_script.specs.declared.step.Step.{Step}
use Rattle.pg_play.specs.declared.tally.Limits.{Limits}
use Rattle.pg_play.specs.declared.tally.Pause.TheVariants as pauses
use Rattle.pg_play.specs.Shown.{feed_of}
use Rattle.pg_play.specs.Calls.{IsUnpolled, Pauses, first_conn}
use Rattle.pg_play.specs.Chains.{IsCopied}
use Rattle.pg_play.specs.Feeding.{parts_of}
use Rattle.pg_play.specs.Plays.{PlaysAs}

-- it was fed these parts, and isn't given up
abbrev pub fed_of : Copying → List (List ℕ) → Bool → Fed
fed_of copying parts ended = record { sql = copying.sql; pieces = parts; is_ended = ended; parting = partings.None }

-- or is, behind all of its data
abbrev pub given_up_as : Copying → Parting → Fed
given_up_as copying parting = record { sql = copying.sql; pieces = parts_of copying; is_ended = false; parting = parting }

abbrev pub asked_of_fed : Fed → Request
asked_of_fed fed = requests.CopyIn (feed_of fed)

-- its data is awaited
abbrev pub IsOpenWith : Limits → Copying → List (List ℕ) → ConnSeen → ConnSeen → ℕ → List Item → Type 0
IsOpenWith limits copying parts old b waits shown = Pauses limits (first_conn (asked_of_fed (fed_of copying parts false)) old) b (asked_of_fed (fed_of copying parts false)) waits shown pauses.Opened

-- and all of it is queued
abbrev pub IsFed : Limits → Copying → ConnSeen → ConnSeen → ℕ → List Item → Type 0
IsFed limits copying old b waits shown = IsOpenWith limits copying (parts_of copying) old b waits shown

abbrev pub of_step : Step → Limits
of_step step = record { polls = step.polls; most = step.most }

-- the step is polled
pub record IsPolled (a : ConnSeen) (step : Step) : Type 0 where
  pub some : IsUnpolled step → ⊥
  pub polls : step.polls < 2 ^ 32
  pub counts : a.rule.depth < 2 ^ 64

-- and was played so
abbrev pub PlaysCopy : ConnSeen → ConnSeen → Step → Copying → Outcome → Type 0
PlaysCopy a b step copying out = PlaysAs a b (IsCopied step copying out)
