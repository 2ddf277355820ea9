-- The text of a column lookup.
use Rattle.std.specs.Prelude.{◌≡◌, ◌≢◌, ℕ, ℤ, List, [], ◌++◌, codes, decimal, Option, Some, None}
use Rattle.std.specs.Fmt.{signed_decimal}
use Rattle.pg_resolve.specs.Listed.{listed}

-- a table's OID and the number of one of its columns
abbrev pub column_text : ℕ × ℤ → List ℕ
column_text c = codes "(" ++ decimal c.0 ++ codes ", " ++ signed_decimal c.1 ++ codes ")"

unfoldable pub column_head : List ℕ
column_head = codes "SELECT\nattrelid table_oid,\nattrelid::regclass::text table_name,\narray_agg(ROW(attnum, attname)) AS columns\nFROM (VALUES "

unfoldable pub column_end : List ℕ
column_end = codes ") lookup(table_oid, attribute_num)\nINNER JOIN pg_catalog.pg_attribute ON lookup.table_oid = attrelid AND lookup.attribute_num = attnum\nGROUP BY attrelid"

abbrev pub column_lookup : List (ℕ × ℤ) → List ℕ
column_lookup columns = column_head ++ listed column_text columns ++ column_end

-- the next column lookup, which is none where nothing is asked
abbrev pub AsksColumns : List (ℕ × ℤ) → Option (List ℕ) → List (ℕ × ℤ) → Type 0
AsksColumns a None b = (a ≡ []) × (b ≡ [])
AsksColumns a (Some text) b = (a ≢ []) × (text ≡ column_lookup a) × (b ≡ [])
