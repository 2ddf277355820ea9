-- Steps that are two or more calls of a connection one behind another: which they are, and what the step tells of them.
use Rattle.std.specs.Prelude.{◌≡◌, ◌⊎◌, ℕ, ◌+◌, ◌-◌, ◌^◌, min, Bool, true, false, bytes_eq, codes, List, [], ◌∷◌, length, is_some, if◌then◌else◌, Option, Some, None, Result, Ok, Err}
use Rattle.std.specs.List.{list_all}
use Rattle.pg_wire.specs.declared.error.Error.{Error}
use Rattle.pg_wire.specs.declared.error.Error.TheVariants as errors
use Rattle.pg_wire.specs.Bytes.{HasNoNul}
use Rattle.pg_wire.specs.Encoding.{Refuses}
use Rattle.pg_wire.specs.Frontend.{CopyFail, frontend_frame}
use Rattle.pg_wire.specs.Reports.{code_of}
use Rattle.pg_request.specs.Queries.{QueryText}
use Rattle.pg_resolve.specs.Nullable.{RefusesColumns}
use Rattle.pg_nullable.specs.Nulls.{AsksNulls}
use Rattle.pg_conn.specs.Flags.{flag_in}
use Rattle.pg_conn.specs.States.{untyped}
use Rattle.pg_report.specs.declared.outcome.Item.{Item}
use Rattle.pg_report.specs.declared.outcome.Item.TheVariants.{Row}
use Rattle.pg_report.specs.declared.outcome.Answer.TheVariants.{Described, Unit as AnswersUnit}
use Rattle.pg_report.specs.declared.outcome.End.{End}
use Rattle.pg_report.specs.declared.outcome.End.TheVariants as ends
use Rattle.pg_report.specs.declared.outcome.Outcome.{Outcome}
use Rattle.pg_script.specs.declared.step.Call.TheVariants as calls
use Rattle.pg_script.specs.declared.step.Step.{Step}
use Rattle.pg_script.specs.declared.step.Copying.{Copying}
use Rattle.pg_script.specs.declared.step.Fed.{Fed}
use Rattle.pg_script.specs.declared.step.CopyEnd.{CopyEnd}
use Rattle.pg_script.specs.declared.step.CopyEnd.TheVariants as copy_ends
use Rattle.pg_script.specs.declared.step.Parting.{Parting}
use Rattle.pg_script.specs.declared.step.Parting.TheVariants as partings
use Rattle.pg_play.specs.Feeding.{CameOf}

-- it is prepared, and then the catalog is asked of its columns whether they may be null

-- the step of the preparation
abbrev pub preparing : Step → List ℕ → Step
preparing step sql = record step { call = calls.Prepare (untyped sql) }

-- the step of the query on nulls, which has the polls that are left behind so many that waited
abbrev pub asking_nulls : Step → ℕ → QueryText → Step
asking_nulls step waits query = record step { call = calls.FetchAll query; polls = step.polls - waits }

-- nothing comes behind a preparation that failed or was dropped, or that told of no column; too many columns are refused
abbrev pub EndsAlone : End → End → Type 0
EndsAlone (ends.Ok (Described parameters fields)) end =
    ((fields ≡ []) × (end ≡ ends.Ok (Described parameters fields)))
    ⊎ ((e : Error) × (end ≡ ends.Err e) × RefusesColumns (length fields) e)
EndsAlone first end = end ≡ first

-- the query asks of the columns that were told
abbrev pub AsksBehind : End → QueryText → Type 0
AsksBehind (ends.Ok (Described parameters fields)) query = AsksNulls fields query
AsksBehind first query = ⊥

abbrev pub GoesOn : End → Result (Option QueryText) Error → Type 0
GoesOn (ends.Ok (Described parameters fields)) (Ok None) = fields ≡ []
GoesOn (ends.Ok (Described parameters fields)) (Ok (Some query)) = AsksNulls fields query
GoesOn (ends.Ok (Described parameters fields)) (Err e) = RefusesColumns (length fields) e
GoesOn first query = query ≡ Ok None

-- a row whose first column has a truth value or a null
abbrev pub has_flag : Item → Bool
has_flag (Row values) = is_some (flag_in values)
has_flag item = false

-- the end of both: the description, where each row of the catalog has such a value
abbrev pub end_behind : End → Bool → End → End
end_behind first has_flags (ends.Ok answer) = if has_flags then first else ends.Err (errors.ColumnDecode 0)
end_behind first has_flags end = end

-- the numbers of both in sum, up to u64's greatest value; of the statements that are kept the step tells what the first made
abbrev pub summed : ℕ → ℕ → ℕ
summed m n = min (m + n) (2 ^ 64 - 1)

abbrev pub told_both : Outcome → Outcome → Outcome
told_both first later = record {
  items = [];
  end = end_behind first.end (list_all has_flag later.items) later.end;
  groups = summed first.groups later.groups;
  heard = summed first.heard later.heard;
  cache = first.cache;
  waits = summed first.waits later.waits;
  moved = summed first.moved later.moved;
}

abbrev pub IsDescribed : Step → List ℕ → Outcome → List Step → List Outcome → Type 0
IsDescribed step sql out parts told =
    ((first : Outcome) × (end : End) × (parts ≡ preparing step sql ∷ []) × (told ≡ first ∷ []) × EndsAlone first.end end × (out ≡ record first { end = end }))
    ⊎ ((first later : Outcome) × (query : QueryText) × (parts ≡ preparing step sql ∷ asking_nulls step first.waits query ∷ []) × (told ≡ first ∷ later ∷ []) × AsksBehind first.end query × (out ≡ told_both first later))

-- ---- a copy from the client: one call, which is told as it was fed, and flushes behind it where it was failed by a message of its own

abbrev pub feeding : Step → Fed → Step
feeding step fed = record step { call = calls.Feed fed }

-- a flush has the polls that are left behind so many that waited
abbrev pub flushing : Step → ℕ → Step
flushing step waits = record step { call = calls.Flush; polls = step.polls - waits }

-- the error by which a server tells that the client has given the copy up: query_canceled ("PostgreSQL Error Codes")
abbrev pub is_cancel : End → Bool
is_cancel (ends.Err (errors.Database details)) = bytes_eq (code_of details) (codes "57014")
is_cancel _ = false

-- the end of the later, and the numbers of both in sum
abbrev pub told_behind : Outcome → Outcome → Outcome
told_behind first later = record first {
  end = later.end;
  groups = summed first.groups later.groups;
  heard = summed first.heard later.heard;
  waits = summed first.waits later.waits;
  moved = summed first.moved later.moved;
}

-- a message that no frame can carry, or for which memory is wanting
abbrev pub IsUnsaid : CopyEnd → Error → Type 0
IsUnsaid (copy_ends.Abort message) e = Refuses 0 (HasNoNul message) (length (frontend_frame (CopyFail message)).body) e
IsUnsaid end e = ⊥

-- The reply to what was failed is read by a flush, up to the error that says so, and then to its end by one more.
abbrev pub IsAborted : Step → Fed → Outcome → List Step → List Outcome → Type 0
IsAborted step fed out parts told =
    ((first later : Outcome) × (parts ≡ feeding step fed ∷ flushing step first.waits ∷ []) × (told ≡ first ∷ later ∷ []) × (first.end ≡ ends.Dropped) × (is_cancel later.end ≡ false) × (out ≡ told_behind first later))
    ⊎ ((first later last : Outcome) × (parts ≡ feeding step fed ∷ flushing step first.waits ∷ flushing step (summed first.waits later.waits) ∷ []) × (told ≡ first ∷ later ∷ last ∷ []) × (first.end ≡ ends.Dropped) × (is_cancel later.end ≡ true) × (out ≡ told_behind (told_behind first later) last))

-- What is told of one that was given up while it was open: Ok where all is sent, the error where its message can't be said, or what the flushes tell.
abbrev pub IsCopiedAs : Parting → Step → Copying → Fed → Outcome → List Step → List Outcome → Type 0
IsCopiedAs partings.None step copying fed out parts told = (parts ≡ feeding step fed ∷ []) × (told ≡ out ∷ [])
IsCopiedAs partings.Left step copying fed out parts told = (first : Outcome) × (parts ≡ feeding step fed ∷ []) × (told ≡ first ∷ []) × (first.end ≡ ends.Dropped) × (out ≡ record first { end = ends.Ok AnswersUnit })
IsCopiedAs partings.Unsaid step copying fed out parts told = (first : Outcome) × (e : Error) × IsUnsaid copying.end e × (parts ≡ feeding step fed ∷ []) × (told ≡ first ∷ []) × (first.end ≡ ends.Dropped) × (out ≡ record first { end = ends.Err e })
IsCopiedAs (partings.Failed message) step copying fed out parts told = IsAborted step fed out parts told

abbrev pub IsCopied : Step → Copying → Outcome → List Step → List Outcome → Type 0
IsCopied step copying out parts told = (fed : Fed) × CameOf copying fed × IsCopiedAs fed.parting step copying fed out parts told
