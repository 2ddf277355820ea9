-- How a step may end where nobody failed: neither the link nor the server.
use Rattle.std.specs.Prelude.{◌≡◌, ◌+◌, ◌*◌, ◌≤◌, ◌⊎◌, ℕ, true, false, List, [], ◌∷◌, ◌++◌, length, map, ◌≢◌, Some}
use Rattle.pg_wire.specs.declared.status.TransactionStatus.TheVariants as statuses
use Rattle.std.specs.List.{AllByRecursion}
use Rattle.pg_wire.specs.declared.error.Error.{Error}
use Rattle.pg_wire.specs.declared.error.Error.TheVariants as errors
use Rattle.pg_wire.specs.declared.error.ProtocolFault.TheVariants as protocol
use Rattle.pg_wire.specs.declared.error.ServerFault.{ServerFault}
use Rattle.pg_wire.specs.Frame.{Frame, backend_tags, text_of}
use Rattle.pg_wire.specs.Cut.{Cuts}
use Rattle.pg_wire.specs.Parts.{heard, is_asynchronous}
use Rattle.pg_wire.specs.Frontend.{frontend_frame}
use Rattle.pg_wire.specs.Groups.{IsGroup}
use Rattle.pg_wire.specs.Server.{IsPrefixOf, AreReplies}
use Rattle.pg_stream.specs.Links.{LinkSeen, Rose}
use Rattle.pg_stream.specs.Streams.{HeaderFault}
use Rattle.pg_stream.specs.Asynchronous.{IsSaid}
use Rattle.pg_call.specs.Requests.{IsRefusal}
use Rattle.pg_report.specs.declared.outcome.End.{End}
use Rattle.pg_report.specs.declared.outcome.End.TheVariants as ends
use Rattle.pg_report.specs.declared.outcome.Outcome.{Outcome}
use Rattle.pg_request.specs.declared.naming.Declared.{Declared}
use Rattle.pg_conn.specs.Looking.{looks_for}
use Rattle.pg_script.specs.declared.step.Call.{Call}
use Rattle.pg_script.specs.declared.step.Step.{Step}
use Rattle.pg_script.specs.declared.step.Parting.{Parting}
use Rattle.pg_script.specs.declared.step.Parting.TheVariants as partings
use Rattle.pg_play.specs.Shown.{parting_of, request_of, IsPartOf, wants_row, begins, begins_with, copies}
use Rattle.pg_play.specs.Places.{Place}

-- From this link up to this place no read or write failed, and no read told the end. In all that was read the server kept the protocol: no
-- header that a frame can't have stands behind the whole frames, each asynchronous message is in its format, and the other frames are
-- replies to those sent, which are the first of those queued.
pub record IsFaultless (first : LinkSeen) (at : Place) (sent read : List Frame) (rest : List ℕ) : Type 0 where
  pub no_fault : Rose first.faults at.seen.link.faults → ⊥
  pub no_end : Rose first.ends at.seen.link.ends → ⊥
  pub sent_first : IsPrefixOf sent (map frontend_frame at.said)
  pub cuts : Cuts backend_tags (text_of at.frames ++ at.seen.held) read rest
  pub headers : (fault : ServerFault) → HeaderFault rest fault → ⊥
  pub asides : AllByRecursion (λ frame. is_asynchronous frame ≡ true → IsSaid frame) read
  pub replies : AreReplies sent (heard read)
  -- and nothing was copied from the client
  pub uncopied : (at.has_failed ≡ false) × AllByRecursion IsGroup at.groups

-- one of its exchanges looks something up
abbrev pub LooksUpFor : Call → Type 0
LooksUpFor call = (depth : ℕ) × (part : Call) × (names : List Declared) × IsPartOf call part × (looks_for (request_of depth part) ≡ Some names)

-- an error that is neither the link's nor the server's fault: want of memory; an error of the database; no row where one is wanted; a text of
-- the caller's that no frame can carry, or that would open a savepoint; a begin behind which no transaction is open; a reply without a copy to
-- what asks for one; or types that the catalog hasn't, by their OIDs or by their names, or a row of a catalog that isn't one
abbrev pub IsFairError : Call → Error → Type 0
IsFairError call errors.OutOfMemory = Unit {0}
IsFairError call (errors.Database details) = Unit {0}
IsFairError call errors.RowNotFound = wants_row call ≡ true
IsFairError call (errors.Protocol (protocol.Caller fault)) = (depth : ℕ) × (part : Call) × IsPartOf call part × IsRefusal (request_of depth part) (errors.Protocol (protocol.Caller fault))
IsFairError call (errors.BeginFailed status) = (begins call ≡ true) × (status ≢ statuses.Transaction)
IsFairError call errors.InvalidSavePointStatement = begins_with call ≡ true
IsFairError call (errors.Protocol (protocol.Reply tag)) = copies call ≡ true
IsFairError call (errors.Protocol (protocol.Types oids)) = LooksUpFor call
IsFairError call (errors.ColumnDecode place) = LooksUpFor call
IsFairError call (errors.TypeNotFound name) = LooksUpFor call
IsFairError call _ = ⊥

-- it had no more polls than its waits and moves take up, or might show no more items than it showed
abbrev pub WasCutShort : Step → Outcome → Type 0
WasCutShort step out = (256 * step.polls ≤ 256 * out.waits + out.moved) ⊎ (step.most ≤ length out.items)

-- or a copy from the client was given up while it was open
abbrev pub IsGivenUp : Parting → Type 0
IsGivenUp partings.None = ⊥
IsGivenUp parting = Unit {0}

abbrev pub IsFairEnd : Step → Outcome → End → Type 0
IsFairEnd step out (ends.Ok answer) = Unit {0}
IsFairEnd step out ends.Dropped = WasCutShort step out ⊎ IsGivenUp (parting_of step.call)
IsFairEnd step out (ends.Err e) = IsFairError step.call e

-- each step ends so
abbrev pub EndFairly : List Step → List Outcome → Type 0
EndFairly [] [] = Unit {0}
EndFairly (step ∷ steps) (out ∷ outs) = IsFairEnd step out out.end × EndFairly steps outs
EndFairly [] (out ∷ outs) = ⊥
EndFairly (step ∷ steps) [] = ⊥

-- where neither the link nor the server failed, no step ends by a fault of theirs
abbrev pub WhereFaultless : LinkSeen → Place → List Step → List Outcome → Type 0
WhereFaultless first at steps outs = (sent read : List Frame) (rest : List ℕ) → IsFaultless first at sent read rest → EndFairly steps outs
