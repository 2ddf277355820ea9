-- An error as a report writes it: its words, and what stands behind them.
use Rattle.std.specs.Prelude.{◌∷◌, ◌++◌, [], List, ℕ, codes}
use Rattle.std.specs.Fmt.{decimal}
use Rattle.pg_wire.specs.Reports.{severity_of, code_of, message_of}
use Rattle.pg_wire.specs.declared.fields.ErrorField.{ErrorField}
use Rattle.pg_wire.specs.declared.severity.PgSeverity.{PgSeverity}
use Rattle.pg_wire.specs.declared.severity.PgSeverity.TheVariants as severities
use Rattle.pg_wire.specs.declared.status.TransactionStatus.{TransactionStatus}
use Rattle.pg_wire.specs.declared.status.TransactionStatus.TheVariants as statuses
use Rattle.pg_wire.specs.declared.error.IoCause.{IoCause}
use Rattle.pg_wire.specs.declared.error.IoCause.TheVariants as causes
use Rattle.pg_wire.specs.declared.error.TlsCause.{TlsCause}
use Rattle.pg_wire.specs.declared.error.TlsCause.TheVariants as tls_causes
use Rattle.pg_wire.specs.declared.error.ConfigPart.{ConfigPart}
use Rattle.pg_wire.specs.declared.error.ConfigPart.TheVariants as config_parts
use Rattle.pg_wire.specs.declared.error.ServerFault.{ServerFault}
use Rattle.pg_wire.specs.declared.error.ServerFault.TheVariants as server
use Rattle.pg_wire.specs.declared.error.CallerFault.{CallerFault}
use Rattle.pg_wire.specs.declared.error.CallerFault.TheVariants as caller
use Rattle.pg_wire.specs.declared.error.ProtocolFault.{ProtocolFault}
use Rattle.pg_wire.specs.declared.error.ProtocolFault.TheVariants as faults
use Rattle.pg_wire.specs.declared.error.Error.{Error}
use Rattle.pg_wire.specs.declared.error.Error.TheVariants as errors
use Rattle.pg_report.specs.Bytes.{hex_byte, quoted_text, numbers_or_dash}

unfoldable pub severity_word : PgSeverity → List ℕ
severity_word severities.Panic = codes "PANIC"
severity_word severities.Fatal = codes "FATAL"
severity_word severities.Error = codes "ERROR"
severity_word severities.Warning = codes "WARNING"
severity_word severities.Notice = codes "NOTICE"
severity_word severities.Debug = codes "DEBUG"
severity_word severities.Info = codes "INFO"
severity_word severities.Log = codes "LOG"

unfoldable pub status_word : TransactionStatus → List ℕ
status_word statuses.Idle = codes "Idle"
status_word statuses.Transaction = codes "Transaction"
status_word statuses.Error = codes "Error"

unfoldable pub io_word : IoCause → List ℕ
io_word causes.Fault = codes "fault"
io_word causes.End = codes "end"
io_word causes.Source = codes "source"

unfoldable pub tls_word : TlsCause → List ℕ
tls_word tls_causes.CannotUpgrade = codes "CannotUpgrade"
tls_word tls_causes.ServerRefused = codes "ServerRefused"
tls_word tls_causes.UpgradeFailed = codes "UpgradeFailed"

unfoldable pub config_word : ConfigPart → List ℕ
config_word config_parts.Url = codes "Url"
config_word config_parts.Utf8 = codes "Utf8"
config_word config_parts.Port = codes "Port"
config_word config_parts.CacheCapacity = codes "CacheCapacity"
config_word config_parts.SslMode = codes "SslMode"
config_word config_parts.HostAddr = codes "HostAddr"
config_word config_parts.Nul = codes "Nul"
config_word config_parts.SaslUser = codes "SaslUser"
config_word config_parts.SaslPassword = codes "SaslPassword"

-- ---- what a server did

unfoldable pub server_words : ServerFault → List ℕ
server_words (server.ShortLength tag n) = codes "ShortLength "
server_words (server.UnknownTag tag) = codes "UnknownTag "
server_words (server.Malformed tag) = codes "Malformed "
server_words (server.Unlawful tag) = codes "Unlawful "
server_words (server.Method code) = codes "Method "
server_words server.Mechanisms = codes "Mechanisms"
server_words server.Nonce = codes "Nonce"
server_words server.Signature = codes "Signature"
server_words (server.SslAnswer b) = codes "SslAnswer "

abbrev pub server_rest : ServerFault → List ℕ
server_rest (server.ShortLength tag n) = hex_byte tag ++ 32 ∷ decimal n
server_rest (server.UnknownTag tag) = hex_byte tag
server_rest (server.Malformed tag) = hex_byte tag
server_rest (server.Unlawful tag) = hex_byte tag
server_rest (server.Method code) = decimal code
server_rest (server.SslAnswer b) = hex_byte b
server_rest _ = []

unfoldable pub server_text : ServerFault → List ℕ
server_text fault = server_words fault ++ server_rest fault

-- ---- what a caller did

unfoldable pub caller_words : CallerFault → List ℕ
caller_words (caller.TooMany n) = codes "TooMany "
caller_words caller.Nul = codes "Nul"
caller_words (caller.TooLong n) = codes "TooLong "
caller_words caller.NoStatementNumber = codes "NoStatementNumber"

abbrev pub caller_rest : CallerFault → List ℕ
caller_rest (caller.TooMany n) = decimal n
caller_rest (caller.TooLong n) = decimal n
caller_rest _ = []

unfoldable pub caller_text : CallerFault → List ℕ
caller_text fault = caller_words fault ++ caller_rest fault

-- ---- who did not keep the protocol

unfoldable pub protocol_words : ProtocolFault → List ℕ
protocol_words (faults.Server fault) = codes "server "
protocol_words (faults.Reply tag) = codes "reply "
protocol_words (faults.Caller fault) = codes "caller "
protocol_words (faults.Types oids) = codes "types "

abbrev pub protocol_rest : ProtocolFault → List ℕ
protocol_rest (faults.Server fault) = server_text fault
protocol_rest (faults.Reply tag) = hex_byte tag
protocol_rest (faults.Caller fault) = caller_text fault
protocol_rest (faults.Types oids) = numbers_or_dash oids

unfoldable pub protocol_text : ProtocolFault → List ℕ
protocol_text fault = protocol_words fault ++ protocol_rest fault

-- ---- errors

-- what a server reports: severity, code and message
unfoldable pub database_text : List ErrorField → List ℕ
database_text fields = severity_word (severity_of fields) ++ 32 ∷ quoted_text (code_of fields) ++ 32 ∷ quoted_text (message_of fields)

unfoldable pub error_words : Error → List ℕ
error_words errors.OutOfMemory = codes "OutOfMemory"
error_words errors.StartupPending = codes "StartupPending"
error_words (errors.Io cause) = codes "Io "
error_words (errors.Database fields) = codes "Database "
error_words (errors.Protocol fault) = codes "Protocol "
error_words (errors.Configuration which place) = codes "Configuration "
error_words (errors.Tls cause) = codes "Tls "
error_words (errors.TypeNotFound name) = codes "TypeNotFound "
error_words errors.InvalidSavePointStatement = codes "InvalidSavePointStatement"
error_words (errors.BeginFailed status) = codes "BeginFailed "
error_words (errors.Encode index) = codes "Encode "
error_words errors.Decode = codes "Decode"
error_words (errors.ColumnDecode index) = codes "ColumnDecode "
error_words errors.RowNotFound = codes "RowNotFound"
error_words (errors.ColumnNotFound name) = codes "ColumnNotFound"
error_words (errors.ColumnIndexOutOfBounds index len) = codes "ColumnIndexOutOfBounds"
error_words (errors.AnyDriverError oid) = codes "AnyDriverError"
error_words (errors.PoolClosed place) = codes "PoolClosed"
error_words (errors.PoolTimedOut place) = codes "PoolTimedOut"
error_words (errors.Audit seat place held kept) = codes "Audit"

abbrev pub error_rest : Error → List ℕ
error_rest (errors.Io cause) = io_word cause
error_rest (errors.Database fields) = database_text fields
error_rest (errors.Protocol fault) = protocol_text fault
error_rest (errors.Configuration which place) = config_word which ++ 32 ∷ decimal place
error_rest (errors.Tls cause) = tls_word cause
error_rest (errors.TypeNotFound name) = quoted_text name
error_rest (errors.BeginFailed status) = status_word status
error_rest (errors.Encode index) = decimal index
error_rest (errors.ColumnDecode index) = decimal index
error_rest _ = []

unfoldable pub error_text : Error → List ℕ
error_text error = error_words error ++ error_rest error
