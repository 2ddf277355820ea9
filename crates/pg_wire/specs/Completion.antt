-- What a command tag says of the number of rows (PostgreSQL manual, "Message Formats", CommandComplete).
use Rattle.std.specs.Prelude.{ℕ, ◌^◌, ◌&&◌, Bool, List, length, nat_eq, nat_lt, if◌then◌else◌}
use Rattle.std.specs.List.{list_any, list_all, after_last}
use Rattle.std.specs.Char.{is_ascii_digit}
use Rattle.std.specs.Str.Parse.{digits_value}

-- one or more decimal digits of a number that 64 bits can carry
abbrev pub is_count : List ℕ → Bool
is_count text = nat_lt 0 (length text) && list_all is_ascii_digit text && nat_lt (digits_value 10 text) (2 ^ 64)

-- the number behind the tag's last space; 0 where there is no space or no such number behind it
abbrev pub rows_affected : List ℕ → ℕ
rows_affected tag =
    let text = after_last (nat_eq 32) tag in
    if list_any (nat_eq 32) tag && is_count text then digits_value 10 text else 0
