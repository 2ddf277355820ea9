-- Internal: reading a body from left to right, as the private readers do: a value and the bytes behind it, or None where no such
-- value stands there. The grammar itself is in Backend.
use Rattle.std.specs.Prelude.{ℕ, ℤ, zero, suc, ◌+◌, ◌*◌, ◌-◌, ◌^◌, List, [], ◌∷◌, length, take, drop, Option, Some, None, nat_lt, nat_le, ◌==◌, ◌&&◌, if◌then◌else◌}
use Rattle.std.specs.Int.{w16, w32, from_be_bytes, cast_signed}
use Rattle.std.specs.Str.{is_utf8}
use Rattle.std.specs.Str.Parse.{digits_value}
use Rattle.std.specs.Char.{is_ascii_digit}
use Rattle.std.specs.List.{list_all}
use Rattle.pg_wire.specs.Backend.{FieldDescription}
use Rattle.pg_wire.specs.declared.fields.ErrorField.{ErrorField}
use Rattle.pg_wire.specs.declared.status.TransactionStatus.{TransactionStatus}
use Rattle.pg_wire.specs.declared.status.TransactionStatus.TheVariants as statuses

infixl 10 ◌>>=◌
abbrev pub ◌>>=◌ : {A B : Type 0} → Option A → (A → Option B) → Option B
None >>= f = None
(Some x) >>= f = f x

abbrev pub Reader : Type 0 → Type 0
Reader A = List ℕ → Option (A × List ℕ)

unfoldable pub byte_at : Reader ℕ
byte_at [] = None
byte_at (b ∷ rest) = Some (b, rest)

unfoldable pub number16_at : Reader ℕ
number16_at (a ∷ b ∷ rest) = Some (from_be_bytes w16 (a ∷ b ∷ []), rest)
number16_at _ = None

unfoldable pub number32_at : Reader ℕ
number32_at (a ∷ b ∷ c ∷ d ∷ rest) = Some (from_be_bytes w32 (a ∷ b ∷ c ∷ d ∷ []), rest)
number32_at _ = None

unfoldable pub signed16_at : Reader ℤ
signed16_at bytes = do
  n ← number16_at bytes
  Some (cast_signed w16 n.0, n.1)

unfoldable pub signed32_at : Reader ℤ
signed32_at bytes = do
  n ← number32_at bytes
  Some (cast_signed w32 n.0, n.1)

-- up to a zero byte, which is passed over
unfoldable pub ended_at : Reader (List ℕ)
ended_at [] = None
ended_at (zero ∷ rest) = Some ([], rest)
ended_at (suc b ∷ rest) = do
  text ← ended_at rest
  Some (suc b ∷ text.0, text.1)

unfoldable pub text_at : Reader (List ℕ)
text_at bytes = do
  text ← ended_at bytes
  if is_utf8 text.0 then Some (text.0, text.1) else None

-- a value behind its length; the length -1 is that of a null
unfoldable pub value_at : Reader (Option (List ℕ))
value_at bytes = do
  n ← number32_at bytes
  if n.0 == 2 ^ 32 - 1 then Some (None, n.1) else if nat_lt n.0 (2 ^ 31) && nat_le n.0 (length n.1) then Some (Some (take n.0 n.1), drop n.0 n.1) else None

-- one of the letters I, T and E, alone
unfoldable pub status_in : List ℕ → Option TransactionStatus
status_in (letter ∷ []) = if letter == 73 then Some statuses.Idle else if letter == 84 then Some statuses.Transaction else if letter == 69 then Some statuses.Error else None
status_in _ = None

-- so many of one kind
unfoldable pub many_at : {A : Type 0} → Reader A → ℕ → Reader (List A)
many_at item zero bytes = Some ([], bytes)
many_at item (suc n) bytes = do
  first ← item bytes
  others ← many_at item n first.1
  Some (first.0 ∷ others.0, others.1)

-- a count, and so many
unfoldable pub counted_at : {A : Type 0} → Reader A → Reader (List A)
counted_at item bytes = do
  n ← number16_at bytes
  many_at item n.0 n.1

-- one kind and then another
unfoldable pub then_at : {A B : Type 0} → Reader A → Reader B → Reader (A × B)
then_at first second bytes = do
  a ← first bytes
  b ← second a.1
  Some ((a.0, b.0), b.1)

-- a column, part by part
unfoldable pub field_at : Reader FieldDescription
field_at bytes = do
  name ← text_at bytes
  table ← number32_at name.1
  attribute ← signed16_at table.1
  type_id ← number32_at attribute.1
  size ← signed16_at type_id.1
  modifier ← signed32_at size.1
  format ← signed16_at modifier.1
  Some (record { name = name.0; table = table.0; attribute = attribute.0; type_id = type_id.0; size = size.0; modifier = modifier.0; format = format.0 }, format.1)

-- one of a kind, or a zero byte, which ends them
unfoldable pub entry_at : {A : Type 0} → Reader A → Reader (Option A)
entry_at item [] = None
entry_at item (zero ∷ rest) = Some (None, rest)
entry_at item (suc b ∷ rest) = do
  x ← item (suc b ∷ rest)
  Some (Some x.0, x.1)

abbrev pub followed_by : {A : Type 0} → Reader (List A) → Option A × List ℕ → Option (List A × List ℕ)
followed_by others (None, rest) = Some ([], rest)
followed_by others (Some a, rest) = do
  x ← others rest
  Some (a ∷ x.0, x.1)

-- at most so many entries, the last one a zero byte
unfoldable pub until_at : {A : Type 0} → Reader A → ℕ → Reader (List A)
until_at item zero bytes = None
until_at item (suc n) bytes = do
  entry ← entry_at item bytes
  followed_by (until_at item n) entry

-- up to a zero byte
unfoldable pub listed_at : {A : Type 0} → Reader A → Reader (List A)
listed_at item bytes = until_at item (length bytes) bytes

-- a field of an error: its code and its text
unfoldable pub detail_at : Reader ErrorField
detail_at bytes = do
  code ← byte_at bytes
  text ← ended_at code.1
  Some (record { code = code.0; text = text.0 }, text.1)

-- all of the bytes
unfoldable pub whole : {A : Type 0} → Reader A → List ℕ → Option A
whole reader bytes = do
  x ← reader bytes
  if length x.1 == 0 then Some x.0 else None

-- names up to an empty one, at least one of them
unfoldable pub mechanisms_in : List ℕ → Option (List (List ℕ))
mechanisms_in bytes = do
  names ← whole (listed_at ended_at) bytes
  if length names == 0 then None else Some names

-- a number with one more digit, where that has room
abbrev pub count_after : ℕ → ℕ → Option ℕ
count_after n byte = if is_ascii_digit byte && nat_lt (n * 10 + (byte - 48)) (2 ^ 64) then Some (n * 10 + (byte - 48)) else None

-- the number that digits alone spell, where it has room
abbrev pub count_in : List ℕ → Option ℕ
count_in text = if list_all is_ascii_digit text && nat_lt (digits_value 10 text) (2 ^ 64) then Some (digits_value 10 text) else None
