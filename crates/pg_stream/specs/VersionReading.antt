-- How a version is read from left to right. What a version means is in Versions; no public clause cites this module.
use Rattle.std.specs.Prelude.{ℕ, nat_eq, if◌then◌else◌, List, [], ◌∷◌, length, drop, Option, Some, None}
use Rattle.std.specs.Str.Parse.{digits_value}
use Rattle.pg_stream.specs.Versions.{front_digits, is_number}

-- the number at the front, and what follows its digits
unfoldable pub number_at : List ℕ → Option (ℕ × List ℕ)
number_at text = if is_number (front_digits text) then Some (digits_value 10 (front_digits text), drop (length (front_digits text)) text) else None

-- the same behind a dot
unfoldable pub further_at : List ℕ → Option (ℕ × List ℕ)
further_at [] = None
further_at (b ∷ rest) = if nat_eq b 46 then number_at rest else None
