-- Statements that a server keeps under their names, over any number of groups (PostgreSQL manual, "Message Flow", "Extended Query").
use Rattle.std.specs.Prelude.{◌≡◌, ℕ, ◌⊎◌, List, [], ◌∷◌, length, Some}
use Rattle.std.specs.List.{AllByRecursion}
use Rattle.pg_wire.specs.Frontend.{FrontendMessage}
use Rattle.pg_wire.specs.Backend.{BackendMessage}
use Rattle.pg_wire.specs.Server.{Server, Statement, statement_at}
use Rattle.pg_exchanges.specs.Answering.{described, describing, IsNoError, IsClosedBy}

-- a statement by its name, its text, and how many columns it has
pub record Named : Type 0 where
  pub name : List ℕ
  pub sql : List ℕ
  pub width : ℕ

-- the server has it
abbrev pub Keeps : Server → Named → Type 0
Keeps server n = (s : Statement) × (statement_at server n.name ≡ Some s) × (s.sql ≡ n.sql) × (length s.fields ≡ n.width)

-- the group prepared and described it, and the response had no error and described so many columns
abbrev pub Describes : Named → List FrontendMessage → List BackendMessage → Type 0
Describes n group response = (types : List ℕ) × (group ≡ describing n.name n.sql types) × AllByRecursion IsNoError response × (length (described response) ≡ n.width)

-- the group doesn't close it
abbrev pub Spares : Named → List FrontendMessage → Type 0
Spares n group = IsClosedBy group n.name → ⊥

-- one of these groups described it, and none behind that one closes it
abbrev pub IsDescribedIn : Named → List (List FrontendMessage) → List (List BackendMessage) → Type 0
IsDescribedIn n [] responses = ⊥
IsDescribedIn n (group ∷ groups) [] = ⊥
IsDescribedIn n (group ∷ groups) (response ∷ responses) = IsDescribedIn n groups responses ⊎ (Describes n group response × AllByRecursion (Spares n) groups)
