-- Reading the text of an array or a record from left to right, as the private readers do. The grammar itself is in Texts.
use Rattle.std.specs.Prelude.{ℕ, zero, suc, ◌==◌, ◌||◌, ◌&&◌, if◌then◌else◌, bytes_eq, List, [], ◌∷◌, length, Option, Some, None}
use Rattle.std.specs.Str.{is_utf8}
use Rattle.pg_wire.specs.Reading.{◌>>=◌, Reader}
use Rattle.pg_values.specs.declared.style.Style.{Style}
use Rattle.pg_values.specs.declared.style.Style.TheVariants as styles
use Rattle.pg_values.specs.Texts.{closing, null_text, is_plain}

-- a kept byte behind a quote or a backslash, or the end of the quotes
abbrev pub kept_at : Style → ℕ → ℕ → List ℕ → Option (Option ℕ × List ℕ)
kept_at styles.Array first second rest = if first == 34 then Some (None, second ∷ rest) else Some (Some second, rest)
kept_at styles.Record first second rest = if second == first then Some (Some first, rest) else if first == 34 then Some (None, second ∷ rest) else None

-- a byte in quotes, or None for the quote that ends them
unfoldable pub character_at : Style → Reader (Option ℕ)
character_at style [] = None
character_at style (c ∷ []) = if c == 34 then Some (None, []) else if c == 92 then None else Some (Some c, [])
character_at style (c ∷ d ∷ rest) = if c == 34 || c == 92 then kept_at style c d rest else Some (Some c, d ∷ rest)

abbrev pub with_byte : Option ℕ × List ℕ → (List ℕ → Option (List ℕ × List ℕ)) → Option (List ℕ × List ℕ)
with_byte (None, rest) others = Some ([], rest)
with_byte (Some c, rest) others = do
  x ← others rest
  Some (c ∷ x.0, x.1)

-- at most so many bytes, up to a quote
unfoldable pub quoted_at : Style → ℕ → Reader (List ℕ)
quoted_at style zero bytes = None
quoted_at style (suc n) bytes = do
  c ← character_at style bytes
  with_byte c (quoted_at style n)

-- as many plain bytes as there are
unfoldable pub plain_at : Style → List ℕ → List ℕ × List ℕ
plain_at style [] = ([], [])
plain_at style (c ∷ rest) = if is_plain style c then (c ∷ (plain_at style rest).0, (plain_at style rest).1) else ([], c ∷ rest)

abbrev pub plain_item : Style → List ℕ × List ℕ → Option (Option (List ℕ) × List ℕ)
plain_item style (text, rest) = if bytes_eq text (null_text style) then Some (None, rest) else if length text == 0 then None else Some (Some text, rest)

abbrev pub quoted_item : Option (List ℕ × List ℕ) → Option (Option (List ℕ) × List ℕ)
quoted_item None = None
quoted_item (Some (text, rest)) = Some (Some text, rest)

abbrev pub if_text : Option (List ℕ) × List ℕ → Option (Option (List ℕ) × List ℕ)
if_text (None, rest) = Some (None, rest)
if_text (Some text, rest) = if is_utf8 text then Some (Some text, rest) else None

abbrev pub quoted_text_at : Style → Reader (Option (List ℕ))
quoted_text_at style bytes = do
  item ← quoted_item (quoted_at style (length bytes) bytes)
  if_text item

abbrev pub plain_text_at : Style → Reader (Option (List ℕ))
plain_text_at style bytes = do
  item ← plain_item style (plain_at style bytes)
  if_text item

-- an element or a field
unfoldable pub item_at : Style → Reader (Option (List ℕ))
item_at style [] = plain_text_at style []
item_at style (c ∷ rest) = if c == 34 then quoted_text_at style rest else plain_text_at style (c ∷ rest)

-- what follows an item: a comma and the bytes behind it, or the closing brace or parenthesis, which is the last byte
unfoldable pub after_item : Style → List ℕ → Option (Option (List ℕ))
after_item style [] = None
after_item style (c ∷ rest) = if c == 44 then Some (Some rest) else if c == closing style && length rest == 0 then Some None else None

abbrev pub more_items : Option (List ℕ) → Option (Option (List ℕ)) → (List ℕ → Option (List (Option (List ℕ)))) → Option (List (Option (List ℕ)))
more_items item None others = None
more_items item (Some None) others = Some (item ∷ [])
more_items item (Some (Some rest)) others = do
  items ← others rest
  Some (item ∷ items)

-- at most so many, up to the closing brace or parenthesis
unfoldable pub items_in : Style → ℕ → List ℕ → Option (List (Option (List ℕ)))
items_in style zero bytes = None
items_in style (suc n) bytes = do
  item ← item_at style bytes
  more_items item.0 (after_item style item.1) (items_in style n)
