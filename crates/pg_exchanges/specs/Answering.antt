-- A server that can answer each message of a group without an error, and what its response tells of columns (PostgreSQL manual, "Extended
-- Query"): what makes messages that are accepted the beginning of a response.
use Rattle.std.specs.Prelude.{◌≡◌, ◌≢◌, ◌⊎◌, List, [], ◌∷◌, ◌++◌, length, map, Option, Some, None, ℕ}
use Rattle.pg_wire.specs.Frontend.{FrontendMessage, Query, Parse, DescribeStatement, DescribePortal, Bind, Execute, CloseStatement, ClosePortal, Sync, Terminate}
use Rattle.pg_wire.specs.Backend.{FieldDescription, BackendMessage, HasBackendFrame, RowDescription, ParameterDescription, ErrorResponse, NoData, DataRow}
use Rattle.pg_wire.specs.Server.{Server, Statement, statement_at, with_statement, without_statement, portal_at, IsFree}

-- ---- the messages

-- wherever the message tells of columns, it tells of these
abbrev pub Tells : List FieldDescription → BackendMessage → Type 0
Tells fields (RowDescription told) = told ≡ fields
Tells fields NoData = fields ≡ []
Tells fields (DataRow values) = length values ≡ length fields
Tells fields _ = Unit {0}

-- no error right behind ParameterDescription: there the server machine has none
abbrev pub MayStandBefore : BackendMessage → List BackendMessage → Type 0
MayStandBefore (ParameterDescription types) (ErrorResponse details ∷ rest) = ⊥
MayStandBefore _ _ = Unit {0}

abbrev pub DescribeWhole : List BackendMessage → Type 0
DescribeWhole [] = Unit {0}
DescribeWhole (m ∷ ms) = MayStandBefore m ms × DescribeWhole ms

-- the columns that messages describe first, and none where they describe none
abbrev pub described : List BackendMessage → List FieldDescription
described [] = []
described (RowDescription told ∷ ms) = told
described (NoData ∷ ms) = []
described (_ ∷ ms) = described ms

abbrev pub IsNoError : BackendMessage → Type 0
IsNoError (ErrorResponse details) = ⊥
IsNoError _ = Unit {0}

-- ---- the server, whose statements all have these columns

abbrev pub HasStatement : List FieldDescription → Server → List ℕ → Type 0
HasStatement fields server name = (s : Statement) × (statement_at server name ≡ Some s) × (s.fields ≡ fields)

-- the message can be answered without an error, and the answer that tells the columns has a frame
abbrev pub CanAnswer : List FieldDescription → Server → FrontendMessage → Type 0
CanAnswer fields server (Parse name sql types) = IsFree server name
CanAnswer fields server (DescribeStatement name) = HasStatement fields server name × HasBackendFrame (RowDescription fields)
CanAnswer fields server (DescribePortal name) = (portal_at server name ≡ Some fields) × HasBackendFrame (RowDescription fields)
CanAnswer fields server (Bind name values) = HasStatement fields server name
CanAnswer fields server (Execute name limit) = portal_at server name ≡ Some fields
CanAnswer fields server (Query sql) = ⊥
CanAnswer fields server Sync = ⊥
CanAnswer fields server Terminate = ⊥
CanAnswer fields server _ = Unit {0}

-- the server behind that answer
abbrev pub answered : List FieldDescription → Server → FrontendMessage → Server
answered fields server (Parse name sql types) = with_statement server name (record { sql = sql; fields = fields })
answered fields server (Bind name values) = record server { portal = Some fields }
answered fields server (CloseStatement name) = without_statement server name
answered fields server (ClosePortal []) = record server { portal = None }
answered fields server _ = server

-- each message can be answered where the one before left the server
abbrev pub IsAble : List FieldDescription → Server → List FrontendMessage → Type 0
IsAble fields server [] = Unit {0}
IsAble fields server (message ∷ ms) = CanAnswer fields server message × IsAble fields (answered fields server message) ms

-- ---- the groups that a driver sends

-- a statement is prepared and described
abbrev pub describing : List ℕ → List ℕ → List ℕ → List FrontendMessage
describing name sql types = Parse name sql types ∷ DescribeStatement name ∷ Sync ∷ []

-- a prepared statement is run
abbrev pub running : List ℕ → List (Option (List ℕ)) → ℕ → List FrontendMessage
running name values limit = Bind name values ∷ Execute [] limit ∷ ClosePortal [] ∷ Sync ∷ []

-- a statement is prepared and run
abbrev pub parsed_running : List ℕ → List ℕ → List ℕ → List (Option (List ℕ)) → ℕ → List FrontendMessage
parsed_running name sql types values limit = Parse name sql types ∷ running name values limit

-- statements are closed; a Sync alone where there are none
abbrev pub closing : List (List ℕ) → List FrontendMessage
closing names = map CloseStatement names ++ Sync ∷ []

-- one of the messages closes the statement of this name
abbrev pub IsClosedBy : List FrontendMessage → List ℕ → Type 0
IsClosedBy [] name = ⊥
IsClosedBy (m ∷ ms) name = (m ≡ CloseStatement name) ⊎ IsClosedBy ms name

-- the name is none of the unnamed statement, and no message closes it
abbrev pub IsKeptBy : List FrontendMessage → List ℕ × ℕ → Type 0
IsKeptBy messages w = (w.0 ≢ []) × (IsClosedBy messages w.0 → ⊥)
