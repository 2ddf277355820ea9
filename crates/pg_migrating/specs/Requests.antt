-- What asks a statement of a migration.
use Rattle.std.specs.Prelude.{◌≡◌, ◌<◌, ℕ, List, [], map, length, slice_get, Option, Some, None, Result, Ok, Err}
use Rattle.pg_wire.specs.declared.error.Error.{Error}
use Rattle.pg_wire.specs.declared.error.Error.TheVariants as errors
use Rattle.pg_arguments.specs.Types.{TypeParts}
use Rattle.pg_arguments.specs.Builtin.{type_under}
use Rattle.pg_arguments.specs.Images.{signed64_bytes}
use Rattle.pg_arguments.specs.Encoded.{Encoded, plain}
use Rattle.pg_arguments.specs.Arguments.{Arguments, HasValues}
use Rattle.pg_request.specs.Queries.{ArgumentsSeen, plain_text}
use Rattle.pg_request.specs.Asked.{kept_query}
use Rattle.pg_call.specs.declared.kind.How.{How}
use Rattle.pg_call.specs.declared.request.Request.{Request}
use Rattle.pg_call.specs.declared.request.Request.TheVariants as requests
use Rattle.pg_call.specs.Requests.{raw}
use Rattle.pg_conn.specs.Connections.{commit_of}
use Rattle.pg_migrate.specs.Orders.{Bound, Int8, Words, Bytes, Statement, Begin, Commit, Script, Prepared}

-- ---- arguments

abbrev pub bound_oid : Bound → ℕ
bound_oid (Int8 z) = 20
bound_oid (Words text) = 25
bound_oid (Bytes bytes) = 17

abbrev pub bound_bytes : Bound → List ℕ
bound_bytes (Int8 z) = signed64_bytes z
bound_bytes (Words text) = text
bound_bytes (Bytes bytes) = bytes

-- as the server gets them
abbrev pub arguments_of : List Bound → ArgumentsSeen
arguments_of bounds = record { types = map bound_oid bounds; values = map (λ b. Some (bound_bytes b)) bounds; names = []; holes = []; open_in = None }

-- and as a caller adds them
abbrev pub bound_type : Bound → TypeParts
bound_type b = type_under (bound_oid b)

abbrev pub bound_value : Bound → Option Encoded
bound_value b = Some (plain (bound_bytes b))

pub record AreBound (bounds : List Bound) (a : Arguments) : Type 0 where
  pub types : a.types ≡ map bound_type bounds
  pub values : HasValues a (map bound_value bounds)

-- an argument has 2147483647 bytes at most
abbrev pub IsTooLong : Bound → Type 0
IsTooLong b = 2147483647 < length (bound_bytes b)

abbrev pub RefusesBounds : List Bound → Error → Type 0
RefusesBounds bounds errors.OutOfMemory = Unit {0}
RefusesBounds bounds (errors.Encode index) = (b : Bound) × (slice_get bounds index ≡ Some b) × IsTooLong b
RefusesBounds bounds _ = ⊥

-- all of them are bound, or one is refused
abbrev pub Binds : List Bound → Result Arguments Error → Type 0
Binds bounds (Ok a) = AreBound bounds a
Binds bounds (Err e) = RefusesBounds bounds e

-- ---- statements

-- the request of a statement, where so many transactions and savepoints are open: a transaction within one is a savepoint
abbrev pub request_of : How → ℕ → Statement → Request
request_of how depth Begin = requests.Begin depth
request_of how depth Commit = commit_of depth
request_of how depth (Script sql) = raw how (plain_text sql)
request_of how depth (Prepared sql bounds) = raw how (kept_query sql (arguments_of bounds))

-- why there is none: an argument that is too long; want of memory is free
abbrev pub RefusesStatement : Statement → Error → Type 0
RefusesStatement s errors.OutOfMemory = Unit {0}
RefusesStatement (Prepared sql bounds) e = RefusesBounds bounds e
RefusesStatement s _ = ⊥

abbrev pub IsRequestOf : How → ℕ → Statement → Result Request Error → Type 0
IsRequestOf how depth s (Ok r) = r ≡ request_of how depth s
IsRequestOf how depth s (Err e) = RefusesStatement s e

-- what is asked before the first poll
abbrev pub Asks : How → ℕ → Statement → Option (Result Request Error) → Type 0
Asks how depth s None = ⊥
Asks how depth s (Some asked) = IsRequestOf how depth s asked
