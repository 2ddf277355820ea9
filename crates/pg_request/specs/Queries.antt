-- What is seen of a query and of its arguments.
use Rattle.std.specs.Prelude.{◌≡◌, ℕ, Bool, false, List, [], length, flat_map, Option, Some, None, Result, Ok, Err}
use Rattle.std.specs.Global.{Box}
use Rattle.pg_wire.specs.Bytes.{value}
use Rattle.pg_arguments.specs.Arguments.{Arguments}
use Rattle.pg_request.specs.declared.naming.Declared.{Declared}
use Rattle.pg_request.specs.declared.unresolved.Open.{Open}
use Rattle.pg_wire.specs.Reading.{value_at, many_at}

-- the types of arguments, and their values in order; a null is None. Where a type is known by its name alone, all are told as they were declared; and where
-- OIDs are open within values, so are their types, in the order of their places, and the arguments as they were given.
pub record ArgumentsSeen : Type 0 where
  pub types : List ℕ
  pub values : List (Option (List ℕ))
  pub names : List Declared
  pub holes : List Declared
  pub open_in : Option Arguments

-- what has to be looked up for arguments
abbrev pub OpenOf : Type 0
OpenOf = Open

abbrev pub nothing_open : Open
nothing_open = record { names = []; holes = []; given = None }

abbrev pub opened : Option (Box Open) → Open
opened None = nothing_open
opened (Some parts) = parts.value

-- a text; its arguments, where it is one of the extended query; and whether its statement is to be kept
pub record QueryText : Type 0 where
  pub sql : List ℕ
  pub arguments : Option ArgumentsSeen
  pub persistent : Bool

-- the types of its arguments as they were declared, where one of them is known by its name alone
abbrev pub names_by : Option ArgumentsSeen → List Declared
names_by None = []
names_by (Some arguments) = arguments.names

-- and those whose OIDs are open within its values
abbrev pub holes_by : Option ArgumentsSeen → List Declared
holes_by None = []
holes_by (Some arguments) = arguments.holes

-- a text without arguments
abbrev pub plain_text : List ℕ → QueryText
plain_text sql = record { sql = sql; arguments = None; persistent = false }

-- its text and its arguments, where it has some
abbrev pub parts_by : QueryText → Option ArgumentsSeen → Result (List ℕ × ArgumentsSeen) QueryText
parts_by query None = Err query
parts_by query (Some arguments) = Ok (query.sql, arguments)

abbrev pub extended : QueryText → Result (List ℕ × ArgumentsSeen) QueryText
extended query = parts_by query query.arguments

-- ---- values that stand behind each other as in Bind (PostgreSQL manual, "Message Formats", Bind)

abbrev pub those_in : Option (List (Option (List ℕ)) × List ℕ) → List (Option (List ℕ))
those_in None = []
those_in (Some x) = x.0

-- the first values of these bytes, so many
abbrev pub values_in : ℕ → List ℕ → List (Option (List ℕ))
values_in count bytes = those_in (many_at value_at count bytes)

-- the bytes are those of so many values
abbrev pub AreValues : ℕ → List ℕ → Type 0
AreValues count bytes = (length (values_in count bytes) ≡ count) × (flat_map value (values_in count bytes) ≡ bytes)

-- arguments by their types, so many values in these bytes, and what has to be looked up for them
abbrev pub made_of : List ℕ → ℕ → List ℕ → Open → ArgumentsSeen
made_of types count bytes unresolved = record { types = types; values = values_in count bytes; names = unresolved.names; holes = unresolved.holes; open_in = unresolved.given }
