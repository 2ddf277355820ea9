-- What a server may reply to each message of a client, and what it remembers (PostgreSQL manual, "Message Flow"). A relation: the manual
-- leaves open what a query gives, when it fails, and what the transaction status is.
use Rattle.pg_wire.specs.declared.fields.ErrorField.{ErrorField}
use Rattle.pg_wire.specs.declared.status.TransactionStatus.{TransactionStatus}
use Rattle.std.specs.Prelude.{◌≡◌, ◌≢◌, ℕ, Bool, true, false, not, cond, ◌⊎◌, List, [], ◌∷◌, ◌++◌, length, map, filter, Option, Some, None, flat_map, bytes_eq}
use Rattle.std.specs.List.{AllByRecursion}
use Rattle.pg_wire.specs.Frame.{Frame}
use Rattle.pg_wire.specs.Frontend.{FrontendMessage, frontend_frame, HasFrontendFrame, Query, Parse, DescribeStatement, DescribePortal, Bind, Execute, CloseStatement, ClosePortal, Sync, Terminate, CopyData, CopyDone, CopyFail}
use Rattle.pg_wire.specs.Backend.{FieldDescription, Values, BackendMessage, backend_frame, HasBackendFrame, ReadyForQuery, RowDescription, ParameterDescription, DataRow, CommandComplete, ErrorResponse, EmptyQueryResponse, ParseComplete, BindComplete, CloseComplete, NoData}
use Rattle.pg_wire.specs.declared.status.TransactionStatus.TheVariants as statuses

-- ---- what a server remembers ("Extended Query")

-- a prepared statement: its text, and the columns of its rows
pub record Statement : Type 0 where
  pub sql : List ℕ
  pub fields : List FieldDescription

-- the prepared statements, the columns of the unnamed portal where there is one, whether messages are skipped up to the next Sync, and
-- whether Terminate has come
pub record Server : Type 0 where
  pub named : List (List ℕ × Statement)
  pub unnamed : Option Statement
  pub portal : Option (List FieldDescription)
  pub skip : Bool
  pub over : Bool

-- a server at the end of start-up
abbrev pub fresh_server : Server
fresh_server = record { named = []; unnamed = None; portal = None; skip = false; over = false }

-- the statement of this name
abbrev pub named_at : List (List ℕ × Statement) → List ℕ → Option Statement
named_at [] name = None
named_at (s ∷ ss) name = cond (bytes_eq s.0 name) (Some s.1) (named_at ss name)

-- the same for any name, where the empty one is the unnamed statement's
abbrev pub statement_at : Server → List ℕ → Option Statement
statement_at server [] = server.unnamed
statement_at server (b ∷ bs) = named_at server.named (b ∷ bs)

-- the server with the statement under this name, and without any
abbrev pub with_statement : Server → List ℕ → Statement → Server
with_statement server [] s = record server { unnamed = Some s }
with_statement server (b ∷ bs) s = record server { named = (b ∷ bs, s) ∷ server.named }

abbrev pub without_statement : Server → List ℕ → Server
without_statement server [] = record server { unnamed = None }
without_statement server (b ∷ bs) = record server { named = filter (λ s. not (bytes_eq s.0 (b ∷ bs))) server.named }

-- a name that Parse may take: the unnamed statement is replaced, a named one must be closed first
abbrev pub IsFree : Server → List ℕ → Type 0
IsFree server [] = Unit {0}
IsFree server (b ∷ bs) = named_at server.named (b ∷ bs) ≡ None

-- the columns of the portal of this name; no other than the unnamed one is ever made
abbrev pub portal_at : Server → List ℕ → Option (List FieldDescription)
portal_at server [] = server.portal
portal_at server (b ∷ bs) = None

-- the portal where ReadyForQuery says this: it is gone where no transaction is open
abbrev pub portal_after : TransactionStatus → Option (List FieldDescription) → Option (List FieldDescription)
portal_after statuses.Idle portal = None
portal_after _ portal = portal

-- ---- the response to a Query ("Simple Query", "Multiple Statements in a Simple Query")

-- rows of so many values each
abbrev pub AreWide : ℕ → List Values → Type 0
AreWide width rows = AllByRecursion (λ row. length row ≡ width) rows

-- a command without rows
abbrev pub IsCommand : List BackendMessage → Type 0
IsCommand rs = (tag : List ℕ) × (rs ≡ CommandComplete tag ∷ [])

-- a command with rows: their columns, rows with a value for each column, and the completion
abbrev pub IsTable : List BackendMessage → Type 0
IsTable rs = (fields : List FieldDescription) × (rows : List Values) × (tag : List ℕ) × AreWide (length fields) rows × (rs ≡ RowDescription fields ∷ map DataRow rows ++ CommandComplete tag ∷ [])

-- the reply to one command of a query text, or to a text without any
abbrev pub IsSegment : List BackendMessage → Type 0
IsSegment rs = IsCommand rs ⊎ (IsTable rs ⊎ (rs ≡ EmptyQueryResponse ∷ []))

-- the beginning of a whole reply, however much of it, and an error in place of the rest
abbrev pub EndsInError : (List BackendMessage → Type 0) → List BackendMessage → Type 0
EndsInError IsWhole rs = (front missing : List BackendMessage) × (details : List ErrorField) × IsWhole (front ++ missing) × (missing ≢ []) × (rs ≡ front ++ ErrorResponse details ∷ [])

-- one or more segments, of which the last may end in an error, and then ReadyForQuery
pub record AreSegments (IsPiece : List BackendMessage → Type 0) (rs : List BackendMessage) : Type 0 where
  pub before : List (List BackendMessage)
  pub last : List BackendMessage
  pub status : TransactionStatus
  pub whole : AllByRecursion IsPiece before
  pub ends : IsPiece last ⊎ EndsInError IsPiece last
  pub are : rs ≡ flat_map (λ segment. segment) before ++ last ++ ReadyForQuery status ∷ []

abbrev pub IsQueryResponse : List BackendMessage → Type 0
IsQueryResponse rs = AreSegments IsSegment rs

-- ---- the replies to the messages of the extended query ("Extended Query")

-- what Execute gives: rows of so many values, and then the completion, or EmptyQueryResponse
abbrev pub IsPortalResult : ℕ → List BackendMessage → Type 0
IsPortalResult width rs = (rows : List Values) × AreWide width rows × (((tag : List ℕ) × (rs ≡ map DataRow rows ++ CommandComplete tag ∷ [])) ⊎ (rs ≡ map DataRow rows ++ EmptyQueryResponse ∷ []))

-- what Describe says of these columns: NoData only where there are none
abbrev pub DescribesFields : List FieldDescription → BackendMessage → Type 0
DescribesFields fields a = (a ≡ RowDescription fields) ⊎ ((fields ≡ []) × (a ≡ NoData))

-- an error, behind which everything is skipped up to the next Sync
abbrev pub Fails : Server → List BackendMessage → Server → Type 0
Fails old rs new = (details : List ErrorField) × (rs ≡ ErrorResponse details ∷ []) × (new ≡ record old { skip = true })

-- no reply, and no change
abbrev pub Ignores : Server → List BackendMessage → Server → Type 0
Ignores old rs new = (rs ≡ []) × (new ≡ old)

-- Parse: the statement stands under its name, with any columns, or an error; an error where the name is taken
abbrev pub StepsParse : Server → List ℕ → List ℕ → List BackendMessage → Server → Type 0
StepsParse old name sql rs new = (IsFree old name × (fields : List FieldDescription) × (rs ≡ ParseComplete ∷ []) × (new ≡ with_statement old name (record { sql = sql; fields = fields }))) ⊎ Fails old rs new

-- Describe of a statement: the types of its parameters and its columns, or an error; an error where there is none
abbrev pub StepsDescribe : Server → Option Statement → List BackendMessage → Server → Type 0
StepsDescribe old None rs new = Fails old rs new
StepsDescribe old (Some s) rs new = ((types : List ℕ) × (a : BackendMessage) × DescribesFields s.fields a × (rs ≡ ParameterDescription types ∷ a ∷ []) × (new ≡ old)) ⊎ Fails old rs new

-- Describe of a portal: its columns, or an error; an error where there is none
abbrev pub StepsDescribePortal : Server → Option (List FieldDescription) → List BackendMessage → Server → Type 0
StepsDescribePortal old None rs new = Fails old rs new
StepsDescribePortal old (Some fields) rs new = ((a : BackendMessage) × DescribesFields fields a × (rs ≡ a ∷ []) × (new ≡ old)) ⊎ Fails old rs new

-- Bind: the unnamed portal has the statement's columns, or an error; an error where there is no such statement
abbrev pub StepsBind : Server → Option Statement → List BackendMessage → Server → Type 0
StepsBind old None rs new = Fails old rs new
StepsBind old (Some s) rs new = ((rs ≡ BindComplete ∷ []) × (new ≡ record old { portal = Some s.fields })) ⊎ Fails old rs new

-- Execute: the portal's result, which may end in an error; an error where there is no portal
abbrev pub StepsExecute : Server → Option (List FieldDescription) → List BackendMessage → Server → Type 0
StepsExecute old None rs new = Fails old rs new
StepsExecute old (Some fields) rs new = (IsPortalResult (length fields) rs × (new ≡ old)) ⊎ (EndsInError (IsPortalResult (length fields)) rs × (new ≡ record old { skip = true }))

-- Close: what had the name is gone, also where nothing had it, or an error
abbrev pub StepsClose : Server → Server → List BackendMessage → Server → Type 0
StepsClose old closed rs new = ((rs ≡ CloseComplete ∷ []) × (new ≡ closed)) ⊎ Fails old rs new

-- Sync: messages count again, and ReadyForQuery comes, perhaps behind the error of a transaction that fails as it ends
abbrev pub after_sync : Server → TransactionStatus → Server
after_sync server status = record server { skip = false; portal = portal_after status server.portal }

abbrev pub StepsSync : Server → List BackendMessage → Server → Type 0
StepsSync old rs new = (status : TransactionStatus) × (new ≡ after_sync old status) × ((rs ≡ ReadyForQuery status ∷ []) ⊎ ((details : List ErrorField) × (rs ≡ ErrorResponse details ∷ ReadyForQuery status ∷ [])))

-- Terminate: no reply, now and later ("Termination")
abbrev pub StepsTerminate : Server → List BackendMessage → Server → Type 0
StepsTerminate old rs new = (rs ≡ []) × (new ≡ record old { over = true })

-- ---- one message after the other

-- while nothing is skipped: the replies to this message, and the server behind them; a message of a copy is ignored where none is going on
abbrev pub Steps : Server → FrontendMessage → List BackendMessage → Server → Type 0
Steps old (Query sql) rs new = IsQueryResponse rs × (new ≡ record old { unnamed = None; portal = None })
Steps old (Parse name sql types) rs new = StepsParse old name sql rs new
Steps old (DescribeStatement name) rs new = StepsDescribe old (statement_at old name) rs new
Steps old (DescribePortal name) rs new = StepsDescribePortal old (portal_at old name) rs new
Steps old (Bind name values) rs new = StepsBind old (statement_at old name) rs new
Steps old (Execute name limit) rs new = StepsExecute old (portal_at old name) rs new
Steps old (CloseStatement name) rs new = StepsClose old (without_statement old name) rs new
Steps old (ClosePortal []) rs new = StepsClose old (record old { portal = None }) rs new
Steps old (ClosePortal (b ∷ bs)) rs new = StepsClose old old rs new
Steps old Sync rs new = StepsSync old rs new
Steps old Terminate rs new = StepsTerminate old rs new
Steps old (CopyData bytes) rs new = Ignores old rs new
Steps old CopyDone rs new = Ignores old rs new
Steps old (CopyFail text) rs new = Ignores old rs new

-- behind an error of the extended query: everything but Sync and Terminate is ignored
abbrev pub Skips : Server → FrontendMessage → List BackendMessage → Server → Type 0
Skips old Sync rs new = StepsSync old rs new
Skips old Terminate rs new = StepsTerminate old rs new
Skips old _ rs new = Ignores old rs new

-- the replies to one message, and the server behind them
abbrev pub ServerStep : Server → FrontendMessage → List BackendMessage → Server → Type 0
ServerStep old message rs new = cond old.over (Ignores old rs new) (cond old.skip (Skips old message rs new) (Steps old message rs new))

-- the replies to each message of a list, and the server behind all of them
abbrev pub ServerRun : Server → List FrontendMessage → List (List BackendMessage) → Server → Type 0
ServerRun old [] [] new = new ≡ old
ServerRun old (message ∷ messages) (rs ∷ rss) new = (mid : Server) × ServerStep old message rs mid × ServerRun mid messages rss new
ServerRun old [] (rs ∷ rss) new = ⊥
ServerRun old (message ∷ messages) [] new = ⊥

abbrev pub IsPrefixOf : {X : Type 0} → List X → List X → Type 0
IsPrefixOf {X} xs ys = (rest : List X) × (xs ++ rest ≡ ys)

-- The frames heard, without asynchronous ones, are replies to the frames sent: the first frames of what a fresh server may reply.
pub record AreReplies (sent heard : List Frame) : Type 0 where
  pub messages : List FrontendMessage
  pub replies : List (List BackendMessage)
  pub after : Server
  pub messages_have_frames : AllByRecursion HasFrontendFrame messages
  pub sent_is : sent ≡ map frontend_frame messages
  pub run : ServerRun fresh_server messages replies after
  pub replies_have_frames : AllByRecursion HasBackendFrame (flat_map (λ rs. rs) replies)
  pub heard_is : IsPrefixOf heard (map backend_frame (flat_map (λ rs. rs) replies))

-- The frames heard may reach a client that sends these messages and perhaps more: of a fresh server's replies to all of them, they are the first.
pub record MayHear (messages : List FrontendMessage) (heard : List Frame) : Type 0 where
  pub more : List FrontendMessage
  pub replies : List (List BackendMessage)
  pub after : Server
  pub run : ServerRun fresh_server (messages ++ more) replies after
  pub replies_have_frames : AllByRecursion HasBackendFrame (flat_map (λ rs. rs) replies)
  pub heard_is : IsPrefixOf heard (map backend_frame (flat_map (λ rs. rs) replies))
