-- What may come in the response to any request group, message by message (PostgreSQL manual, "Message Flow": "Simple Query", "Extended
-- Query"). It is the bridge between a client's state and the server machine with copies: what it refuses begins no response to the group (law
-- `refused_message_begins_no_response_to_a_group`), and what it accepts begins one (law `accepted_messages_begin_a_response`).
use Rattle.std.specs.Prelude.{◌≡◌, ℕ, not, List, [], ◌∷◌, ◌++◌, length, filter, Option, Some, None, nat_eq, bytes_eq, if◌then◌else◌, option_and_then}
use Rattle.std.specs.List.{AllByRecursion}
use Rattle.pg_wire.specs.Frame.{Frame}
use Rattle.pg_wire.specs.Frontend.{FrontendMessage, Query, Parse, DescribeStatement, DescribePortal, Bind, Execute, CloseStatement, ClosePortal}
use Rattle.pg_wire.specs.Backend.{BackendMessage, backend_frame, HasBackendFrame, ReadyForQuery, RowDescription, ParameterDescription, DataRow, CommandComplete, ErrorResponse, EmptyQueryResponse, ParseComplete, BindComplete, CloseComplete, NoData}
use Rattle.pg_wire.specs.Server.{Server, Statement, statement_at}
use Rattle.pg_wire.specs.Acceptor.{Awaits, FirstSegment, AfterError, NothingMore, next}
use Rattle.pg_wire.specs.Refusals.{BeginsCopyResponse, BeginsCopy, MayBeginCopy}

-- ---- what is awaited

-- what is awaited of a message of the extended query: ParseComplete; ParameterDescription; RowDescription or NoData; BindComplete; rows of this
-- width, or of any one width, and their end; further rows of this width, and their end; CloseComplete
pub data Step : Type 0 where
  Parses : Step
  Types : Step
  Columns : Step
  Binds : Step
  Runs : (width : Option ℕ) → Step
  RunsOn : (width : ℕ) → Step
  Closes : Step

-- what is awaited in a response: of that to a Query, what the acceptor of such responses awaits; of that to a group which a Sync ends, these
-- steps, and then the reply to the Sync
pub data Expected : Type 0 where
  InQuery : Awaits → Expected
  InSteps : List Step → Expected

-- the width of the rows behind one of so many values, where this width was known, or none was
abbrev pub width_behind : Option ℕ → ℕ → Option ℕ
width_behind None n = Some n
width_behind (Some width) n = if nat_eq n width then Some width else None

abbrev pub rows_on : List Step → Option ℕ → Option Expected
rows_on steps None = None
rows_on steps (Some width) = Some (InSteps (RunsOn width ∷ steps))

-- what is awaited behind one more message, in a step with others behind it. An error may come at any point, and behind it only the reply to the
-- Sync is left. It may come between ParameterDescription and RowDescription too, where the server machine has none: so the law of what is
-- accepted speaks of messages without such an error (`DescribeWhole`)
abbrev pub in_step : Step → List Step → BackendMessage → Option Expected
in_step step steps (ErrorResponse details) = Some (InSteps [])
in_step Parses steps ParseComplete = Some (InSteps steps)
in_step Types steps (ParameterDescription types) = Some (InSteps steps)
in_step Columns steps (RowDescription fields) = Some (InSteps steps)
in_step Columns steps NoData = Some (InSteps steps)
in_step Binds steps BindComplete = Some (InSteps steps)
in_step (Runs width) steps (DataRow values) = rows_on steps (width_behind width (length values))
in_step (Runs width) steps (CommandComplete tag) = Some (InSteps steps)
in_step (Runs width) steps EmptyQueryResponse = Some (InSteps steps)
in_step (RunsOn width) steps (DataRow values) = rows_on steps (width_behind (Some width) (length values))
in_step (RunsOn width) steps (CommandComplete tag) = Some (InSteps steps)
in_step (RunsOn width) steps EmptyQueryResponse = Some (InSteps steps)
in_step Closes steps CloseComplete = Some (InSteps steps)
in_step _ steps _ = None

abbrev pub in_query : Option Awaits → Option Expected
in_query None = None
in_query (Some s) = Some (InQuery s)

-- what is awaited behind one more message; None where it may not come here. A Sync is answered by ReadyForQuery, or by an error and then it
abbrev pub following : Expected → BackendMessage → Option Expected
following (InQuery s) m = in_query (next s m)
following (InSteps (step ∷ steps)) m = in_step step steps m
following (InSteps []) (ReadyForQuery status) = Some (InQuery NothingMore)
following (InSteps []) (ErrorResponse details) = Some (InQuery AfterError)
following (InSteps []) _ = None

-- what is awaited behind these messages; None where they aren't accepted
abbrev pub behind : Expected → List BackendMessage → Option Expected
behind e [] = Some e
behind e (m ∷ ms) = option_and_then (λ f. behind f ms) (following e m)

-- ---- what is awaited first, by the group

-- how many columns statements have, as far as it is known, by their names
abbrev pub Widths : Type 0
Widths = List (List ℕ × ℕ)

abbrev pub width_at : Widths → List ℕ → Option ℕ
width_at [] name = None
width_at (w ∷ ws) name = if bytes_eq w.0 name then Some w.1 else width_at ws name

-- each name stands there once
abbrev pub AreDistinct : Widths → Type 0
AreDistinct [] = Unit {0}
AreDistinct (w ∷ ws) = (width_at ws w.0 ≡ None) × AreDistinct ws

abbrev pub forget : List ℕ → Widths → Widths
forget name widths = filter (λ w. not (bytes_eq w.0 name)) widths

-- the steps of one message, where the portal has so many columns, or nobody knows how many
abbrev pub steps_for : Option ℕ → FrontendMessage → List Step
steps_for portal (Parse name sql types) = Parses ∷ []
steps_for portal (DescribeStatement name) = Types ∷ Columns ∷ []
steps_for portal (DescribePortal name) = Columns ∷ []
steps_for portal (Bind name values) = Binds ∷ []
steps_for portal (Execute name limit) = Runs portal ∷ []
steps_for portal (CloseStatement name) = Closes ∷ []
steps_for portal (ClosePortal name) = Closes ∷ []
steps_for portal _ = []

-- what is known of statements behind a message, and of the portal
abbrev pub widths_after : Widths → FrontendMessage → Widths
widths_after widths (Parse name sql types) = forget name widths
widths_after widths (CloseStatement name) = forget name widths
widths_after widths _ = widths

abbrev pub portal_width : Widths → Option ℕ → FrontendMessage → Option ℕ
portal_width widths portal (Bind name values) = width_at widths name
portal_width widths portal _ = portal

abbrev pub steps_of : Widths → Option ℕ → List FrontendMessage → List Step
steps_of widths portal [] = []
steps_of widths portal (m ∷ ms) = steps_for portal m ++ steps_of (widths_after widths m) (portal_width widths portal m) ms

-- what is awaited first in the response to a group, where these widths are known
abbrev pub expected : Widths → List FrontendMessage → Expected
expected widths (Query sql ∷ ms) = InQuery FirstSegment
expected widths ms = InSteps (steps_of widths None ms)

-- ---- what a server may do

-- the server has a statement of this name with so many columns
abbrev pub HasWidth : Server → List ℕ × ℕ → Type 0
HasWidth server w = (s : Statement) × (statement_at server w.0 ≡ Some s) × (length s.fields ≡ w.1)

abbrev pub HasWidths : Server → Widths → Type 0
HasWidths server widths = AllByRecursion (HasWidth server) widths

-- some server between two groups, which has these statements, may begin its response to this group with these frames, copies allowed
abbrev pub BeginsKnowing : Widths → List FrontendMessage → List Frame → Type 0
BeginsKnowing widths group frames = (b : BeginsCopyResponse group frames) × HasWidths b.before.server widths

-- a copy may begin where a segment of the response to a Query may, and in place of rows ("COPY Operations")
abbrev pub MayCopy : Expected → BackendMessage → Type 0
MayCopy (InQuery s) m = MayBeginCopy s m
MayCopy (InSteps (Runs width ∷ steps)) m = BeginsCopy m
MayCopy _ m = ⊥

-- whatever message this frame is of, it may not come here, and begins no copy here
abbrev pub MayNotFollow : Expected → Frame → Type 0
MayNotFollow e frame = (m : BackendMessage) → HasBackendFrame m → backend_frame m ≡ frame → (following e m ≡ None) × (MayCopy e m → ⊥)
