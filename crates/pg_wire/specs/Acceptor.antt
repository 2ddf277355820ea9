-- Internal: a program that takes the response to a Query message by message. It is the bridge between a client's state and the grammar of
-- `IsQueryResponse`, and accepts exactly the beginnings of that (law `query_responses_are_accepted`).
use Rattle.std.specs.Prelude.{ℕ, List, [], ◌∷◌, length, Option, Some, None, nat_eq, if◌then◌else◌, option_and_then}
use Rattle.pg_wire.specs.Backend.{BackendMessage, RowDescription, DataRow, CommandComplete, ErrorResponse, EmptyQueryResponse, ReadyForQuery}

-- what may come next: the first segment; a further one or ReadyForQuery; rows of this width or their end; ReadyForQuery alone; nothing
pub data Awaits : Type 0 where
  FirstSegment : Awaits
  FurtherSegment : Awaits
  RowsOf : (width : ℕ) → Awaits
  AfterError : Awaits
  NothingMore : Awaits

-- what may come behind the first message of a segment
abbrev pub begins : BackendMessage → Option Awaits
begins (CommandComplete tag) = Some FurtherSegment
begins EmptyQueryResponse = Some FurtherSegment
begins (RowDescription fields) = Some (RowsOf (length fields))
begins (ErrorResponse details) = Some AfterError
begins _ = None

-- what may come behind one more message; None where it may not come here
abbrev pub next : Awaits → BackendMessage → Option Awaits
next FirstSegment a = begins a
next FurtherSegment (ReadyForQuery status) = Some NothingMore
next FurtherSegment a = begins a
next (RowsOf width) (DataRow values) = if nat_eq (length values) width then Some (RowsOf width) else None
next (RowsOf width) (CommandComplete tag) = Some FurtherSegment
next (RowsOf width) (ErrorResponse details) = Some AfterError
next (RowsOf width) _ = None
next AfterError (ReadyForQuery status) = Some NothingMore
next AfterError _ = None
next NothingMore _ = None

-- what may come behind these messages; None where they aren't accepted
abbrev pub accepts : Awaits → List BackendMessage → Option Awaits
accepts s [] = Some s
accepts s (a ∷ rs) = option_and_then (λ t. accepts t rs) (next s a)
