-- Short conversations of a client and a server, as data for the worked examples: what the server replies in each.
use Rattle.pg_wire.specs.declared.fields.ErrorField.{ErrorField}
use Rattle.pg_wire.specs.declared.status.TransactionStatus.{TransactionStatus}
use Rattle.std.specs.Prelude.{ℕ, List, [], ◌∷◌, ◌++◌, Some, codes, pos, negsuc}
use Rattle.pg_wire.specs.Frontend.{FrontendMessage, Query, Parse, DescribeStatement, Bind, Execute, ClosePortal, Sync}
use Rattle.pg_wire.specs.Backend.{FieldDescription, BackendMessage, ReadyForQuery, RowDescription, ParameterDescription, DataRow, CommandComplete, ErrorResponse, EmptyQueryResponse, ParseComplete, BindComplete, CloseComplete, NoData, CopyInResponse, CopyOutResponse, BackendCopyData, BackendCopyDone, NoticeResponse, ParameterStatus, NotificationResponse}
use Rattle.pg_wire.specs.declared.status.TransactionStatus.TheVariants as statuses

-- the settings of a startup message
abbrev pub settings : List (List ℕ × List ℕ)
settings = (codes "DateStyle", codes "ISO, MDY") ∷ (codes "client_encoding", codes "UTF8") ∷ (codes "TimeZone", codes "UTC") ∷ (codes "extra_float_digits", codes "2") ∷ []

-- a column of no table, with values of type int4; a row of it; and an error
abbrev pub one_column : FieldDescription
one_column = record { name = codes "?column?"; table = 0; attribute = pos 0; type_id = 23; size = pos 4; modifier = negsuc 0; format = pos 0 }

abbrev pub row : BackendMessage
row = DataRow (Some (codes "1") ∷ [])

abbrev pub syntax_error : List ErrorField
syntax_error = record { code = 83; text = codes "ERROR" } ∷ record { code = 67; text = codes "42601" } ∷ record { code = 77; text = codes "no" } ∷ []

-- a notice, a parameter change and a notification, and ReadyForQuery behind them
abbrev pub beside_ready : List BackendMessage
beside_ready = NoticeResponse [] ∷ ParameterStatus (codes "TimeZone") (codes "UTC") ∷ NotificationResponse 1 (codes "a") [] ∷ ReadyForQuery statuses.Idle ∷ []

-- ---- responses to a Query

abbrev pub selected : List BackendMessage
selected = RowDescription (one_column ∷ []) ∷ row ∷ CommandComplete (codes "SELECT 1") ∷ ReadyForQuery statuses.Idle ∷ []

abbrev pub empty : List BackendMessage
empty = EmptyQueryResponse ∷ ReadyForQuery statuses.Idle ∷ []

abbrev pub two_segments : List BackendMessage
two_segments = CommandComplete (codes "SET") ∷ RowDescription (one_column ∷ []) ∷ row ∷ row ∷ CommandComplete (codes "SELECT 2") ∷ ReadyForQuery statuses.Idle ∷ []

abbrev pub failed : TransactionStatus → List BackendMessage
failed status = ErrorResponse syntax_error ∷ ReadyForQuery status ∷ []

-- an error behind a row
abbrev pub failed_late : List BackendMessage
failed_late = RowDescription (one_column ∷ []) ∷ row ∷ failed statuses.Error

abbrev pub completed : List ℕ → TransactionStatus → List BackendMessage
completed tag status = CommandComplete tag ∷ ReadyForQuery status ∷ []

-- ---- the extended query: a group that prepares a statement, and one that executes it

abbrev pub described_group : List FrontendMessage
described_group = Parse (codes "sqlx_s_1") (codes "SELECT 1") [] ∷ DescribeStatement (codes "sqlx_s_1") ∷ Sync ∷ []

abbrev pub executed_group : List FrontendMessage
executed_group = Bind (codes "sqlx_s_1") [] ∷ Execute [] 0 ∷ ClosePortal [] ∷ Sync ∷ []

-- of a statement without columns, and of one with a column
abbrev pub none_described : List BackendMessage
none_described = ParseComplete ∷ ParameterDescription [] ∷ NoData ∷ ReadyForQuery statuses.Idle ∷ []

abbrev pub one_described : List BackendMessage
one_described = ParseComplete ∷ ParameterDescription [] ∷ RowDescription (one_column ∷ []) ∷ ReadyForQuery statuses.Idle ∷ []

abbrev pub one_executed : List BackendMessage
one_executed = BindComplete ∷ row ∷ CommandComplete (codes "SELECT 1") ∷ CloseComplete ∷ ReadyForQuery statuses.Idle ∷ []

-- ---- copies: to the client; from the client, where it breaks them off, and where it finishes them

abbrev pub copied_out : List BackendMessage
copied_out = CopyOutResponse (pos 0) [] ∷ BackendCopyData (codes "1") ∷ BackendCopyData (codes "2") ∷ BackendCopyDone ∷ CommandComplete (codes "COPY 2") ∷ []

abbrev pub copy_broken : List BackendMessage
copy_broken = CopyInResponse (pos 0) [] ∷ failed statuses.Idle

abbrev pub copy_finished : List BackendMessage
copy_finished = CopyInResponse (pos 0) [] ∷ completed (codes "COPY 2") statuses.Idle

-- ---- a transaction that fails and is rolled back

abbrev pub transaction : List FrontendMessage
transaction = Query (codes "BEGIN") ∷ Query (codes "SELEC 1") ∷ Query (codes "ROLLBACK") ∷ []

abbrev pub rolled_back : List BackendMessage
rolled_back = completed (codes "BEGIN") statuses.Transaction ++ failed statuses.Error ++ completed (codes "ROLLBACK") statuses.Idle
