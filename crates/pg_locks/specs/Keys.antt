-- Queries with the numbers of a lock's key as their arguments (PostgreSQL manual, "Advisory Lock Functions").
use Rattle.std.specs.Prelude.{◌≡◌, ℕ, List, [], ◌∷◌, Option, Some, None}
use Rattle.pg_arguments.specs.Types.{TypeParts}
use Rattle.pg_arguments.specs.Builtin.{type_under}
use Rattle.pg_arguments.specs.Encoded.{Encoded}
use Rattle.pg_arguments.specs.Arguments.{Arguments, HasValues}
use Rattle.pg_arguments.specs.Images.{signed32_bytes, signed32_image, signed64_bytes, signed64_image}
use Rattle.pg_locks.specs.declared.key.PgAdvisoryLockKey.{PgAdvisoryLockKey}
use Rattle.pg_locks.specs.declared.key.PgAdvisoryLockKey.TheVariants.{BigInt, IntPair}
use Rattle.pg_request.specs.Queries.{ArgumentsSeen, QueryText}
use Rattle.pg_request.specs.Asked.{kept_query}

-- an int8, or two int4, in their binary form
abbrev pub key_arguments : PgAdvisoryLockKey → ArgumentsSeen
key_arguments (BigInt number) = record { types = 20 ∷ []; values = Some (signed64_bytes number) ∷ []; names = []; holes = []; open_in = None }
key_arguments (IntPair first second) = record { types = 23 ∷ 23 ∷ []; values = Some (signed32_bytes first) ∷ Some (signed32_bytes second) ∷ []; names = []; holes = []; open_in = None }

-- a query of this text with them, whose statement is kept
abbrev pub with_key : List ℕ → PgAdvisoryLockKey → QueryText
with_key text key = kept_query text (key_arguments key)

-- arguments that a caller has made of them
abbrev pub key_types : PgAdvisoryLockKey → List TypeParts
key_types (BigInt number) = type_under 20 ∷ []
key_types (IntPair first second) = type_under 23 ∷ type_under 23 ∷ []

abbrev pub key_values : PgAdvisoryLockKey → List (Option Encoded)
key_values (BigInt number) = Some (signed64_image number) ∷ []
key_values (IntPair first second) = Some (signed32_image first) ∷ Some (signed32_image second) ∷ []

pub record HasKey (key : PgAdvisoryLockKey) (a : Arguments) : Type 0 where
  pub types : a.types ≡ key_types key
  pub values : HasValues a (key_values key)
