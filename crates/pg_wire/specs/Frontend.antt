-- What a client sends (PostgreSQL manual, "Message Formats", the messages marked F).
use Rattle.std.specs.Prelude.{ℕ, ◌<◌, ◌+◌, ◌^◌, List, [], ◌∷◌, ◌++◌, ◌==◌, if◌then◌else◌, length, Option, Some, None, IfSome, flat_map, codes, decimal}
use Rattle.std.specs.List.{AllByRecursion}
use Rattle.pg_wire.specs.Bytes.{number16, number32, ended, value, HasNoNul}
use Rattle.pg_wire.specs.Frame.{Frame}

-- the messages of a session; Bind is for the unnamed portal, the only one that is ever made
pub data FrontendMessage : Type 0 where
  Query : (sql : List ℕ) → FrontendMessage
  Parse : (name sql types : List ℕ) → FrontendMessage
  DescribeStatement : (name : List ℕ) → FrontendMessage
  DescribePortal : (name : List ℕ) → FrontendMessage
  Bind : (name : List ℕ) (values : List (Option (List ℕ))) → FrontendMessage
  Execute : (portal : List ℕ) (limit : ℕ) → FrontendMessage
  CloseStatement : (name : List ℕ) → FrontendMessage
  ClosePortal : (name : List ℕ) → FrontendMessage
  Sync : FrontendMessage
  Terminate : FrontendMessage
  CopyData : (bytes : List ℕ) → FrontendMessage
  CopyDone : FrontendMessage
  CopyFail : (text : List ℕ) → FrontendMessage

-- the name of a numbered prepared statement; the empty name is the unnamed statement's
abbrev pub statement_name : ℕ → List ℕ
statement_name n = codes "sqlx_s_" ++ decimal n

-- type OIDs behind their count
abbrev pub type_list : List ℕ → List ℕ
type_list types = number16 (length types) ++ flat_map number32 types

-- the rest of Bind behind its two names: one format code for all parameters, the parameters, and one for all columns; both formats are binary
abbrev pub bound : List (Option (List ℕ)) → List ℕ
bound values = number16 1 ++ number16 1 ++ number16 (length values) ++ flat_map value values ++ number16 1 ++ number16 1

-- what Describe and Close speak of: S is a prepared statement, P a portal
abbrev pub statement : List ℕ → List ℕ
statement name = codes "S" ++ ended name

abbrev pub portal : List ℕ → List ℕ
portal name = codes "P" ++ ended name

-- the frame that carries a message
abbrev pub frontend_frame : FrontendMessage → Frame
frontend_frame (Query sql) = record { tag = 81; body = ended sql }
frontend_frame (Parse name sql types) = record { tag = 80; body = ended name ++ ended sql ++ type_list types }
frontend_frame (DescribeStatement name) = record { tag = 68; body = statement name }
frontend_frame (DescribePortal name) = record { tag = 68; body = portal name }
frontend_frame (Bind name values) = record { tag = 66; body = ended [] ++ ended name ++ bound values }
frontend_frame (Execute name limit) = record { tag = 69; body = ended name ++ number32 limit }
frontend_frame (CloseStatement name) = record { tag = 67; body = statement name }
frontend_frame (ClosePortal name) = record { tag = 67; body = portal name }
frontend_frame Sync = record { tag = 83; body = [] }
frontend_frame Terminate = record { tag = 88; body = [] }
frontend_frame (CopyData bytes) = record { tag = 100; body = bytes }
frontend_frame CopyDone = record { tag = 99; body = [] }
frontend_frame (CopyFail text) = record { tag = 102; body = ended text }

-- a number that four bytes can carry
abbrev pub IsNumber32 : ℕ → Type 0
IsNumber32 n = n < 2 ^ 32

-- a value whose length is a positive signed number of four bytes
abbrev pub FitsValue : Option (List ℕ) → Type 0
FitsValue None = Unit {0}
FitsValue (Some bytes) = length bytes < 2 ^ 31

-- a message that can be read back from its frame: its texts have no zero byte, and its counts and numbers fit
abbrev pub HasFrontendFrame : FrontendMessage → Type 0
HasFrontendFrame (Query sql) = HasNoNul sql
HasFrontendFrame (Parse name sql types) = HasNoNul name × HasNoNul sql × (length types < 2 ^ 16) × AllByRecursion IsNumber32 types
HasFrontendFrame (DescribeStatement name) = HasNoNul name
HasFrontendFrame (DescribePortal name) = HasNoNul name
HasFrontendFrame (Bind name values) = HasNoNul name × (length values < 2 ^ 16) × AllByRecursion FitsValue values
HasFrontendFrame (Execute name limit) = HasNoNul name × IsNumber32 limit
HasFrontendFrame (CloseStatement name) = HasNoNul name
HasFrontendFrame (ClosePortal name) = HasNoNul name
HasFrontendFrame (CopyFail text) = HasNoNul text
HasFrontendFrame _ = Unit {0}

-- ---- what is sent in start-up ("Message Formats", StartupMessage, SSLRequest, PasswordMessage and the two SASL responses)

-- a parameter's name and its value
abbrev pub setting : List ℕ × List ℕ → List ℕ
setting pair = ended pair.0 ++ ended pair.1

-- nothing where no database is set
abbrev pub database_setting : Option (List ℕ) → List ℕ
database_setting None = []
database_setting (Some name) = setting (codes "database", name)

-- the length of all, protocol version 3.0, the user, the database where one is set, the other parameters, and a zero byte
abbrev pub startup : List ℕ → Option (List ℕ) → List (List ℕ × List ℕ) → List ℕ
startup user database parameters =
    let rest = number32 196608 ++ setting (codes "user", user) ++ database_setting database ++ flat_map setting parameters ++ 0 ∷ [] in
    number32 (length rest + 4) ++ rest

-- a length, and the request code in place of a version
abbrev pub ssl_request : List ℕ
ssl_request = number32 8 ++ number32 80877103

-- a clear-text password, or the MD5 text
abbrev pub password : List ℕ → Frame
password text = record { tag = 112; body = ended text }

-- SASLInitialResponse: the mechanism, and the client's first message behind its length
abbrev pub sasl_first : List ℕ → Frame
sasl_first text = record { tag = 112; body = ended (codes "SCRAM-SHA-256") ++ number32 (length text) ++ text }

-- SASLResponse: a further message of the mechanism, which takes the whole body
abbrev pub sasl_next : List ℕ → Frame
sasl_next text = record { tag = 112; body = text }

-- what follows the length in a startup message
abbrev pub startup_body : List ℕ → Option (List ℕ) → List (List ℕ × List ℕ) → List ℕ
startup_body user database parameters = number32 196608 ++ setting (codes "user", user) ++ database_setting database ++ flat_map setting parameters ++ 0 ∷ []

abbrev pub IsSetting : List ℕ × List ℕ → Type 0
IsSetting pair = HasNoNul pair.0 × HasNoNul pair.1

-- a startup message can be said: no text in it has a zero byte
abbrev pub HasStartup : List ℕ → Option (List ℕ) → List (List ℕ × List ℕ) → Type 0
HasStartup user database parameters = HasNoNul user × IfSome database HasNoNul × AllByRecursion IsSetting parameters

-- the name of a numbered portal
abbrev pub portal_name : ℕ → List ℕ
portal_name n = codes "sqlx_p_" ++ decimal n

-- the name under a number, of which 0 is that of the unnamed statement or portal
abbrev pub name_under : (ℕ → List ℕ) → ℕ → List ℕ
name_under name number = if number == 0 then [] else name number

-- the same where there is a name
abbrev pub shown_name : (ℕ → List ℕ) → ℕ → Option (List ℕ)
shown_name name number = if number == 0 then None else Some (name number)

-- the number after this one: the unnamed one stays, and the greatest has none after it
abbrev pub number_after : ℕ → Option ℕ
number_after number = if number == 0 then Some 0 else if number == 4294967295 then None else Some (number + 1)

-- the body of a Bind whose values are encoded already
abbrev pub bind_body : List ℕ → ℕ → List ℕ → List ℕ
bind_body name count encoded = ended [] ++ ended name ++ number16 1 ++ number16 1 ++ number16 count ++ encoded ++ number16 1 ++ number16 1
