-- The number of steps that a word says.
use Rattle.std.specs.Prelude.{ℕ, List, Option, Some, None, ◌&&◌, nat_le, if◌then◌else◌}
use Rattle.pg_script.specs.Reading.{◌>>=◌}
use Rattle.pg_script.specs.Words.{digits_after}

abbrev pub if_allowed : ℕ → Option ℕ
if_allowed n = if nat_le 1 n && nat_le n 100000 then Some n else None

-- decimal digits, of a number from 1 to 100000
abbrev pub count_of : List ℕ → Option ℕ
count_of word = digits_after 0 word >>= if_allowed
