-- Numbers in decimal, as Rust's `str::parse` reads them at an unsigned type.
use Rattle.std.specs.Prelude.{ℕ, ◌^◌, ◌&&◌, nat_lt, List, length, Option, Some, None, if◌then◌else◌}
use Rattle.std.specs.List.{list_all}
use Rattle.std.specs.Char.{is_ascii_digit}
use Rattle.std.specs.Str.Parse.{digits_value, without_leading_plus}

-- one digit or more, perhaps behind a plus, that write a number below the limit
unfoldable pub number_below : ℕ → List ℕ → Option ℕ
number_below limit text =
    let digits = without_leading_plus text in
    if nat_lt 0 (length digits) && list_all is_ascii_digit digits && nat_lt (digits_value 10 digits) limit
    then Some (digits_value 10 digits) else None

-- a port is a number of 16 bits
abbrev pub port_from : List ℕ → Option ℕ
port_from text = number_below (2 ^ 16) text

-- a capacity is a number of 64 bits
abbrev pub capacity_from : List ℕ → Option ℕ
capacity_from text = number_below (2 ^ 64) text
