-- What the fields of an ErrorResponse or a NoticeResponse report (PostgreSQL manual, "Error and Notice Message Fields").
use Rattle.std.specs.Prelude.{ℕ, List, [], Option, Some, None, codes, bytes_eq, nat_eq, if◌then◌else◌, unwrap_or, option_and_then, option_map, find}
use Rattle.std.specs.Option.{option_or}
use Rattle.std.specs.Str.Lossy.{utf8_lossy}
use Rattle.pg_wire.specs.declared.fields.ErrorField.{ErrorField}
use Rattle.pg_wire.specs.declared.severity.PgSeverity.{PgSeverity}
use Rattle.pg_wire.specs.declared.severity.PgSeverity.TheVariants as severities

-- the text of the first field of this code
abbrev pub first_text : ℕ → List ErrorField → Option (List ℕ)
first_text code fields = option_map (λ f. f.text) (find (λ f. nat_eq f.code code) fields)

-- the severity that a word names; the words of field V are never translated
unfoldable pub severity_named : List ℕ → Option PgSeverity
severity_named word = if bytes_eq word (codes "PANIC") then Some severities.Panic
    else if bytes_eq word (codes "FATAL") then Some severities.Fatal
    else if bytes_eq word (codes "ERROR") then Some severities.Error
    else if bytes_eq word (codes "WARNING") then Some severities.Warning
    else if bytes_eq word (codes "NOTICE") then Some severities.Notice
    else if bytes_eq word (codes "DEBUG") then Some severities.Debug
    else if bytes_eq word (codes "INFO") then Some severities.Info
    else if bytes_eq word (codes "LOG") then Some severities.Log
    else None

-- the severity that a field's word names
abbrev pub severity_at : ℕ → List ErrorField → Option PgSeverity
severity_at code fields = option_and_then severity_named (first_text code fields)

-- what field V (86) names, else what S (83) names, else Log
abbrev pub severity_of : List ErrorField → PgSeverity
severity_of fields = unwrap_or (option_or (severity_at 86 fields) (severity_at 83 fields)) severities.Log

-- a field's text, in which bytes that are no UTF-8 are replaced; the empty text where no field has the code
abbrev pub text_at : ℕ → List ErrorField → List ℕ
text_at code fields = utf8_lossy (unwrap_or (first_text code fields) [])

-- field C (67), the SQLSTATE code, and field M (77), the message
abbrev pub code_of : List ErrorField → List ℕ
code_of fields = text_at 67 fields

abbrev pub message_of : List ErrorField → List ℕ
message_of fields = text_at 77 fields
