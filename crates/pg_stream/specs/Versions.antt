-- A server's version as one number, by the text of its parameter server_version (PostgreSQL manual, "Preset Options",
-- server_version_num).
use Rattle.std.specs.Prelude.{ℕ, ◌+◌, ◌*◌, ◌^◌, Bool, ◌&&◌, nat_lt, nat_le, nat_eq, if◌then◌else◌, List, [], ◌∷◌, length, Option, Some, None}
use Rattle.std.specs.List.{take_while}
use Rattle.std.specs.Char.{is_ascii_digit}
use Rattle.std.specs.Str.Parse.{digits_value}
use Rattle.pg_wire.specs.Parts.{onto_first}

-- a text cut at its dots
abbrev pub pieces : List ℕ → List (List ℕ)
pieces [] = [] ∷ []
pieces (b ∷ rest) = if nat_eq b 46 then [] ∷ pieces rest else onto_first b (pieces rest)

abbrev pub front_digits : List ℕ → List ℕ
front_digits text = take_while is_ascii_digit text

-- one digit or more, whose number has 32 bits at most
abbrev pub is_number : List ℕ → Bool
is_number digits = nat_lt 0 (length digits) && nat_lt (digits_value 10 digits) (2 ^ 32)

-- the numbers at the fronts of the pieces, up to a piece that is not a number alone
abbrev pub numbers : List (List ℕ) → List ℕ
numbers [] = []
numbers (piece ∷ others) = if is_number (front_digits piece) then digits_value 10 (front_digits piece) ∷ (if nat_eq (length (front_digits piece)) (length piece) then numbers others else []) else []

abbrev pub within : ℕ → Option ℕ
within n = if nat_lt n (2 ^ 32) then Some n else None

-- a version of one to three numbers; since version 10 the second one counts minor releases
abbrev pub version_by : List ℕ → Option ℕ
version_by (a ∷ []) = within (10000 * a)
version_by (a ∷ b ∷ []) = within (10000 * a + (if nat_le 10 a then b else 100 * b))
version_by (a ∷ b ∷ c ∷ []) = within (10000 * a + 100 * b + c)
version_by _ = None

abbrev pub version_of : List ℕ → Option ℕ
version_of text = version_by (numbers (pieces text))
