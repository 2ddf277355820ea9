-- The columns of a result as the server describes them (PostgreSQL manual, "Message Formats", RowDescription).
use Rattle.std.specs.Prelude.{ℕ, ℤ, ◌+◌, zero, suc, pos, List, [], ◌∷◌, map, Option, Some, None, Vec}
use Rattle.std.specs.Arc.{arc_value}
use Rattle.std.specs.declared.alloc.Global.{Global}
use Rattle.std.specs.declared.sync.Arc.{Arc}
use Rattle.pg_wire.specs.Backend.{FieldDescription}
use Rattle.pg_wire.specs.Fields.{described}
use Rattle.pg_wire.specs.declared.message.row_description.Field.{Field}
use Rattle.pg_arguments.specs.Builtin.{type_under}
use Rattle.pg_columns.specs.declared.column.PgColumn.{PgColumn}
use Rattle.pg_columns.specs.declared.origin.ColumnOrigin.{ColumnOrigin}
use Rattle.pg_columns.specs.declared.origin.ColumnOrigin.TheVariants as origins

-- a table, and a column's number in it: 0 is none
abbrev pub table_of : ℕ → Option ℕ
table_of zero = None
table_of (suc n) = Some (suc n)

abbrev pub attribute_of : ℤ → Option ℤ
attribute_of (pos zero) = None
attribute_of z = Some z

abbrev pub field_of : FieldDescription → Field
field_of f = record { name = f.name; relation_id = table_of f.table; relation_attribute_no = attribute_of f.attribute; type_id = f.type_id; size = f.size; modifier = f.modifier; format = f.format }

-- what is no column of a table is an expression; the names of any other aren't told
abbrev pub origin_by : Option ℕ → Option ℤ → ColumnOrigin
origin_by (Some table) (Some attribute) = origins.Unknown
origin_by _ _ = origins.Expression

abbrev pub origin_of : Field → ColumnOrigin
origin_of f = origin_by f.relation_id f.relation_attribute_no

abbrev pub column_at : ℕ → Field → PgColumn
column_at ordinal f = record { ordinal = ordinal; field = f; type_info = type_under f.type_id; origin = origin_of f }

abbrev pub made_columns : ℕ → List Field → List PgColumn
made_columns ordinal [] = []
made_columns ordinal (f ∷ fs) = column_at ordinal f ∷ made_columns (ordinal + 1) fs

-- the columns that these descriptions tell of
abbrev pub columns_of : List FieldDescription → List PgColumn
columns_of fields = made_columns 0 (map field_of fields)

-- the columns behind a shared pointer
abbrev pub items_in : Option (Arc (Vec PgColumn Global) Global) → List PgColumn
items_in None = []
items_in (Some shared) = (arc_value shared).items

-- what was told of these columns
abbrev pub told_by : List PgColumn → List FieldDescription
told_by columns = map (λ column. described column.field) columns
