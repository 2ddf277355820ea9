-- The names of tables and of their columns that a connection has looked up, as contracts see them.
use Rattle.std.specs.Prelude.{◌≡◌, ◌⊎◌, ℕ, ℤ, ◌+◌, ◌*◌, List, [], ◌∷◌, ◌++◌, Option, Some, None, FitsSigned}
use Rattle.std.specs.Ordering.{nat_cmp}
use Rattle.std.specs.Int.{w16, cast_unsigned}
use Rattle.std.specs.BTreeMap.{insert_entry}
use Rattle.pg_resolve.specs.declared.row.ColumnResolverRow.{ColumnResolverRow}
use Rattle.pg_resolve.specs.Cached.{number_at}
use Rattle.pg_resolve.specs.Settling.{Has}

-- each list is in the order of its keys, which are distinct
pub record TablesSeen : Type 0 where
  -- the names of tables by their OIDs
  pub tables : List (ℕ × List ℕ)
  -- the names of columns by their numbers among the columns of all tables
  pub columns : List (ℕ × List ℕ)

abbrev pub no_tables : TablesSeen
no_tables = record { tables = []; columns = [] }

-- the number of a column among those of all tables: that of its table, and below it its own in two's complement
unfoldable pub column_key : ℕ → ℤ → ℕ
column_key table attribute = 65536 * table + cast_unsigned w16 attribute

abbrev pub table_name : TablesSeen → ℕ → Option (List ℕ)
table_name c table = number_at table c.tables

abbrev pub column_name : TablesSeen → ℕ → ℤ → Option (List ℕ)
column_name c table attribute = number_at (column_key table attribute) c.columns

abbrev pub both_names : Option (List ℕ) → Option (List ℕ) → Option (List ℕ × List ℕ)
both_names (Some table) (Some column) = Some (table, column)
both_names (Some table) None = None
both_names None column = None

-- the names of a table and of a column of it, where both are known
abbrev pub column_named : TablesSeen → ℕ → ℤ → Option (List ℕ × List ℕ)
column_named c table attribute = both_names (table_name c table) (column_name c table attribute)

abbrev pub put_table : ℕ → List ℕ → TablesSeen → TablesSeen
put_table table name c = record c { tables = insert_entry nat_cmp c.tables table name }

-- a table's name enters where it isn't there yet
abbrev pub enter_where : Option (List ℕ) → ℕ → List ℕ → TablesSeen → TablesSeen
enter_where None table name c = put_table table name c
enter_where (Some other) table name c = c

abbrev pub enter_table : ℕ → List ℕ → TablesSeen → TablesSeen
enter_table table name c = enter_where (table_name c table) table name c

-- a column's name is set in place of an older one
abbrev pub put_column : ℕ → ℤ × List ℕ → TablesSeen → TablesSeen
put_column table column c = record c { columns = insert_entry nat_cmp c.columns (column_key table column.0) column.1 }

abbrev pub put_columns : ℕ → List (ℤ × List ℕ) → TablesSeen → TablesSeen
put_columns table [] c = c
put_columns table (x ∷ xs) c = put_columns table xs (put_column table x c)

-- what a row of a column lookup tells is kept
abbrev pub with_row : ColumnResolverRow → TablesSeen → TablesSeen
with_row row c = put_columns row.table_oid row.columns (enter_table row.table_oid row.table_name c)

-- some of the columns are kept, from the first one on
abbrev pub PutsFront : ℕ → List (ℤ × List ℕ) → TablesSeen → TablesSeen → Type 0
PutsFront table columns a b = (front : List (ℤ × List ℕ)) × (back : List (ℤ × List ℕ)) × (columns ≡ front ++ back) × (b ≡ put_columns table front a)

-- a part of what a row tells is kept, or nothing
abbrev pub KeepsPart : ColumnResolverRow → TablesSeen → TablesSeen → Type 0
KeepsPart row a b = (b ≡ a) ⊎ PutsFront row.table_oid row.columns (enter_table row.table_oid row.table_name a) b

-- each column has a number
abbrev pub HaveNumbers : List (ℤ × List ℕ) → Type 0
HaveNumbers columns = (x : ℤ × List ℕ) → Has columns x → FitsSigned w16 x.0

-- the last of the columns with this number has this name
abbrev pub IsLastName : ℤ → List ℕ → List (ℤ × List ℕ) → Type 0
IsLastName attribute name columns =
    (front : List (ℤ × List ℕ)) × (back : List (ℤ × List ℕ)) × (columns ≡ front ++ (attribute, name) ∷ back) × ((other : List ℕ) → Has back (attribute, other) → ⊥)
