-- What a server sends (PostgreSQL manual, "Message Formats", the messages marked B).
use Rattle.std.specs.Prelude.{◌≡◌, ℕ, ℤ, ◌<◌, ◌^◌, ◌≢◌, List, [], ◌∷◌, ◌++◌, length, Option, flat_map, FitsSigned, IsUtf8, MatchBool, ◌==◌, ◌||◌}
use Rattle.std.specs.Int.{w8, w16, w32, cast_unsigned}
use Rattle.std.specs.List.{AllByRecursion}
use Rattle.pg_wire.specs.Bytes.{number16, number32, signed16, signed32, ended, value, HasNoNul}
use Rattle.pg_wire.specs.Frame.{Frame}
use Rattle.pg_wire.specs.declared.fields.ErrorField.{ErrorField}
use Rattle.pg_wire.specs.declared.status.TransactionStatus.{TransactionStatus}
use Rattle.pg_wire.specs.Frontend.{type_list, FitsValue}
use Rattle.pg_wire.specs.declared.status.TransactionStatus.TheVariants as statuses

-- one column as RowDescription describes it; a table or an attribute of 0 means that the column is none of a table's
pub record FieldDescription : Type 0 where
  pub name : List ℕ
  pub table : ℕ
  pub attribute : ℤ
  pub type_id : ℕ
  pub size : ℤ
  pub modifier : ℤ
  pub format : ℤ

-- a row's values in order; None is a null
abbrev pub Values : Type 0
Values = List (Option (List ℕ))

-- the messages of a session; CopyData and CopyDone are sent by a client too, hence the prefix
pub data BackendMessage : Type 0 where
  Authentication : (code : ℕ) (data_bytes : List ℕ) → BackendMessage
  BackendKeyData : (process secret : ℕ) → BackendMessage
  ParameterStatus : (name setting : List ℕ) → BackendMessage
  ReadyForQuery : TransactionStatus → BackendMessage
  RowDescription : List FieldDescription → BackendMessage
  ParameterDescription : List ℕ → BackendMessage
  DataRow : Values → BackendMessage
  CommandComplete : (tag : List ℕ) → BackendMessage
  ErrorResponse : List ErrorField → BackendMessage
  NoticeResponse : List ErrorField → BackendMessage
  NotificationResponse : (process : ℕ) (channel payload : List ℕ) → BackendMessage
  CopyInResponse : (format : ℤ) (columns : List ℤ) → BackendMessage
  CopyOutResponse : (format : ℤ) (columns : List ℤ) → BackendMessage
  BackendCopyData : (bytes : List ℕ) → BackendMessage
  BackendCopyDone : BackendMessage
  EmptyQueryResponse : BackendMessage
  ParseComplete : BackendMessage
  BindComplete : BackendMessage
  CloseComplete : BackendMessage
  NoData : BackendMessage
  PortalSuspended : BackendMessage

-- the transaction status as ReadyForQuery tells it: I, T or E
abbrev pub status_byte : TransactionStatus → ℕ
status_byte statuses.Idle = 73
status_byte statuses.Transaction = 84
status_byte statuses.Error = 69

-- a column of RowDescription
abbrev pub field_bytes : FieldDescription → List ℕ
field_bytes f = ended f.name ++ number32 f.table ++ signed16 f.attribute ++ number32 f.type_id ++ signed16 f.size ++ signed32 f.modifier ++ signed16 f.format

-- a field of an error or a notice: its code, and its text
abbrev pub detail_bytes : ErrorField → List ℕ
detail_bytes d = d.code ∷ ended d.text

-- the overall format of a copy, and the format of each column
abbrev pub copy_bytes : ℤ → List ℤ → List ℕ
copy_bytes format columns = cast_unsigned w8 format ∷ number16 (length columns) ++ flat_map signed16 columns

-- the body of DataRow
abbrev pub row_bytes : Values → List ℕ
row_bytes values = number16 (length values) ++ flat_map value values

-- the body of RowDescription
abbrev pub fields_bytes : List FieldDescription → List ℕ
fields_bytes fields = number16 (length fields) ++ flat_map field_bytes fields

-- the body of ErrorResponse and of NoticeResponse: the fields, and a zero byte
abbrev pub details_bytes : List ErrorField → List ℕ
details_bytes details = flat_map detail_bytes details ++ 0 ∷ []

-- the frame that carries a message
abbrev pub backend_frame : BackendMessage → Frame
backend_frame (Authentication code bytes) = record { tag = 82; body = number32 code ++ bytes }
backend_frame (BackendKeyData process secret) = record { tag = 75; body = number32 process ++ number32 secret }
backend_frame (ParameterStatus name setting) = record { tag = 83; body = ended name ++ ended setting }
backend_frame (ReadyForQuery status) = record { tag = 90; body = status_byte status ∷ [] }
backend_frame (RowDescription fields) = record { tag = 84; body = fields_bytes fields }
backend_frame (ParameterDescription types) = record { tag = 116; body = type_list types }
backend_frame (DataRow values) = record { tag = 68; body = row_bytes values }
backend_frame (CommandComplete tag) = record { tag = 67; body = ended tag }
backend_frame (ErrorResponse details) = record { tag = 69; body = details_bytes details }
backend_frame (NoticeResponse details) = record { tag = 78; body = details_bytes details }
backend_frame (NotificationResponse process channel payload) = record { tag = 65; body = number32 process ++ ended channel ++ ended payload }
backend_frame (CopyInResponse format columns) = record { tag = 71; body = copy_bytes format columns }
backend_frame (CopyOutResponse format columns) = record { tag = 72; body = copy_bytes format columns }
backend_frame (BackendCopyData bytes) = record { tag = 100; body = bytes }
backend_frame BackendCopyDone = record { tag = 99; body = [] }
backend_frame EmptyQueryResponse = record { tag = 73; body = [] }
backend_frame ParseComplete = record { tag = 49; body = [] }
backend_frame BindComplete = record { tag = 50; body = [] }
backend_frame CloseComplete = record { tag = 51; body = [] }
backend_frame NoData = record { tag = 110; body = [] }
backend_frame PortalSuspended = record { tag = 115; body = [] }

-- a column whose name is UTF-8 without a zero byte, and whose numbers fit
abbrev pub FitsField : FieldDescription → Type 0
FitsField f = HasNoNul f.name × IsUtf8 f.name × (f.table < 2 ^ 32) × (f.type_id < 2 ^ 32) × FitsSigned w16 f.attribute × FitsSigned w16 f.size × FitsSigned w32 f.modifier × FitsSigned w16 f.format

-- a field whose code isn't the zero byte that ends the list
abbrev pub FitsDetail : ErrorField → Type 0
FitsDetail d = (d.code ≢ 0) × HasNoNul d.text

-- the format codes of a copy fit
abbrev pub IsColumns : ℤ → List ℤ → Type 0
IsColumns format columns = FitsSigned w8 format × (length columns < 2 ^ 16) × AllByRecursion (FitsSigned w16) columns

-- AuthenticationSASL: the names of one or more mechanisms, none of them empty, and a zero byte
abbrev pub AreMechanisms : List ℕ → Type 0
AreMechanisms bytes = (first : List ℕ) × (others : List (List ℕ)) × AllByRecursion (λ name. HasNoNul name × (name ≢ [])) (first ∷ others) × (bytes ≡ flat_map ended (first ∷ others) ++ 0 ∷ [])

-- what follows the code of an Authentication message: nothing for Ok (0) and a clear-text password (3), four bytes of salt for MD5 (5),
-- the mechanisms for SASL (10), UTF-8 for its two further steps (11, 12), and anything for a code that isn't answered here
abbrev pub IsChallenge : ℕ → List ℕ → Type 0
IsChallenge code bytes =
    MatchBool (code == 0 || code == 3) (bytes ≡ [])
    (MatchBool (code == 5) (length bytes ≡ 4)
    (MatchBool (code == 10) (AreMechanisms bytes)
    (MatchBool (code == 11 || code == 12) (IsUtf8 bytes) (Unit {0}))))

-- a text that a client shows as one: UTF-8 without a zero byte
abbrev pub IsText : List ℕ → Type 0
IsText text = HasNoNul text × IsUtf8 text

-- a message that can be read back from its frame: its parts are within the format that the manual gives for it
abbrev pub HasBackendFrame : BackendMessage → Type 0
HasBackendFrame (Authentication code bytes) = (code < 2 ^ 32) × IsChallenge code bytes
HasBackendFrame (BackendKeyData process secret) = (process < 2 ^ 32) × (secret < 2 ^ 32)
HasBackendFrame (ParameterStatus name setting) = IsText name × IsText setting
HasBackendFrame (NotificationResponse process channel payload) = (process < 2 ^ 32) × IsText channel × IsText payload
HasBackendFrame (RowDescription fields) = (length fields < 2 ^ 16) × AllByRecursion FitsField fields
HasBackendFrame (ParameterDescription types) = (length types < 2 ^ 16) × AllByRecursion (λ n. n < 2 ^ 32) types
HasBackendFrame (DataRow values) = (length values < 2 ^ 16) × AllByRecursion FitsValue values
HasBackendFrame (CommandComplete tag) = HasNoNul tag
HasBackendFrame (ErrorResponse details) = AllByRecursion FitsDetail details
HasBackendFrame (NoticeResponse details) = AllByRecursion FitsDetail details
HasBackendFrame (CopyInResponse format columns) = IsColumns format columns
HasBackendFrame (CopyOutResponse format columns) = IsColumns format columns
HasBackendFrame (ReadyForQuery status) = Unit {0}
HasBackendFrame (BackendCopyData bytes) = Unit {0}
HasBackendFrame BackendCopyDone = Unit {0}
HasBackendFrame EmptyQueryResponse = Unit {0}
HasBackendFrame ParseComplete = Unit {0}
HasBackendFrame BindComplete = Unit {0}
HasBackendFrame CloseComplete = Unit {0}
HasBackendFrame NoData = Unit {0}
HasBackendFrame PortalSuspended = Unit {0}
