-- Numbers, bytes and texts as a report writes them.
use Rattle.std.specs.Prelude.{◌∷◌, ◌++◌, ◌%◌, ◌/◌, ◌&&◌, ◌||◌, [], List, ℕ, codes, flat_map, nat_eq, nat_le, if◌then◌else◌}
use Rattle.std.specs.Char.{digit_char}
use Rattle.std.specs.Fmt.{decimal}

-- two lower-case hexadecimal digits
abbrev pub hex_byte : ℕ → List ℕ
hex_byte b = digit_char (b / 16) ∷ digit_char (b % 16) ∷ []

abbrev pub hex : List ℕ → List ℕ
hex bytes = flat_map hex_byte bytes

-- the bytes, or a dash where there are none
unfoldable pub hex_or_dash : List ℕ → List ℕ
hex_or_dash [] = codes "-"
hex_or_dash (b ∷ bs) = hex (b ∷ bs)

-- a quote and a backslash stand behind a backslash; printable ASCII stands for itself
abbrev pub quoted_byte : ℕ → List ℕ
quoted_byte b = if nat_eq b 34 || nat_eq b 92 then 92 ∷ b ∷ []
    else if nat_le 32 b && nat_le b 126 then b ∷ []
    else 92 ∷ 120 ∷ hex_byte b

unfoldable pub quoted_text : List ℕ → List ℕ
quoted_text bytes = 34 ∷ flat_map quoted_byte bytes ++ 34 ∷ []

-- a word, a space and a number
unfoldable pub named_number : List ℕ → ℕ → List ℕ
named_number word n = word ++ 32 ∷ decimal n

-- a number behind a comma
abbrev pub behind_comma : ℕ → List ℕ
behind_comma n = 44 ∷ decimal n

-- numbers joined by commas, or a dash where there are none
unfoldable pub numbers_or_dash : List ℕ → List ℕ
numbers_or_dash [] = codes "-"
numbers_or_dash (n ∷ ns) = decimal n ++ flat_map behind_comma ns
