-- Advisory locks: the texts that take and release them (PostgreSQL manual, "Advisory Lock Functions"), and the key of a text.
use Rattle.std.specs.Prelude.{ℕ, ℤ, List, ◌++◌, Option, Some, None, codes}
use Rattle.std.specs.Fmt.{signed_decimal}
use Rattle.std.specs.Int.{w64, from_le_bytes, cast_signed}
use Rattle.pg_auth.specs.Hkdf.{hkdf8}
use Rattle.pg_locks.specs.declared.key.PgAdvisoryLockKey.{PgAdvisoryLockKey}
use Rattle.pg_locks.specs.declared.key.PgAdvisoryLockKey.TheVariants.{BigInt, IntPair}

-- HKDF's info text, which keeps these numbers apart from those that others derive from the same text
unfoldable pub info : List ℕ
info = codes "SQLx (Rust) Postgres advisory lock"

-- eight bytes derived from the text, the low one first, as a signed number
abbrev pub number_of_text : List ℕ → ℤ
number_of_text text = cast_signed w64 (from_le_bytes w64 (hkdf8 text info))

-- that number in decimal digits, on a line of its own
abbrev pub key_line : List ℕ → List ℕ
key_line text = signed_decimal (number_of_text text) ++ codes "\n"

abbrev pub as_bigint : PgAdvisoryLockKey → Option ℤ
as_bigint (BigInt number) = Some number
as_bigint (IntPair first second) = None

-- a function is called with the key's numbers as arguments
abbrev pub statement : List ℕ → PgAdvisoryLockKey → List ℕ
statement function (BigInt number) = codes "SELECT " ++ function ++ codes "($1)"
statement function (IntPair first second) = codes "SELECT " ++ function ++ codes "($1, $2)"

abbrev pub lock_statement : PgAdvisoryLockKey → List ℕ
lock_statement key = statement (codes "pg_advisory_lock") key

abbrev pub try_lock_statement : PgAdvisoryLockKey → List ℕ
try_lock_statement key = statement (codes "pg_try_advisory_lock") key

abbrev pub unlock_statement : PgAdvisoryLockKey → List ℕ
unlock_statement key = statement (codes "pg_advisory_unlock") key

-- the numbers stand in the text itself
abbrev pub unlock_query : PgAdvisoryLockKey → List ℕ
unlock_query (BigInt number) = codes "SELECT pg_advisory_unlock(" ++ signed_decimal number ++ codes ")"
unlock_query (IntPair first second) = codes "SELECT pg_advisory_unlock(" ++ signed_decimal first ++ codes ", " ++ signed_decimal second ++ codes ")"
