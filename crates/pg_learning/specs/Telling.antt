-- Columns with the types that were looked up, and where they come from.
use Rattle.std.specs.Prelude.{ℕ, ℤ, List, map, unwrap_or, Option, Some, None}
use Rattle.pg_arguments.specs.Types.{TypeParts}
use Rattle.pg_columns.specs.declared.column.PgColumn.{PgColumn}
use Rattle.pg_columns.specs.declared.origin.ColumnOrigin.{ColumnOrigin}
use Rattle.pg_columns.specs.declared.origin.ColumnOrigin.TheVariants as origins
use Rattle.pg_resolve.specs.Cached.{CacheSeen, cached}
use Rattle.pg_resolve.specs.Tables.{TablesSeen, column_named}
use Rattle.pg_learning.specs.declared.learnt.Learnt.{Learnt}
use Rattle.pg_learning.specs.Learning.{in_two_bytes}

-- the type that was looked up under the column's OID, or else the one that was told
abbrev pub learnt_type : CacheSeen → PgColumn → TypeParts
learnt_type types column = unwrap_or (cached types column.field.type_id) column.type_info

-- the names of a table and of its column, or else what was told
abbrev pub named_origin : Option (List ℕ × List ℕ) → ColumnOrigin → ColumnOrigin
named_origin (Some names) told = origins.Table (record { table = names.0; name = names.1 })
named_origin None told = told

abbrev pub origin_in : TablesSeen → Option ℕ → Option ℤ → ColumnOrigin → ColumnOrigin
origin_in tables (Some table) (Some attribute) told = named_origin (column_named tables table (in_two_bytes attribute)) told
origin_in tables _ _ told = told

abbrev pub learnt_origin : TablesSeen → PgColumn → ColumnOrigin
learnt_origin tables column = origin_in tables column.field.relation_id column.field.relation_attribute_no column.origin

abbrev pub learnt_column : Learnt → PgColumn → PgColumn
learnt_column a column = record { ordinal = column.ordinal; field = column.field; type_info = learnt_type a.types column; origin = learnt_origin a.tables column }

abbrev pub learnt_columns : Learnt → List PgColumn → List PgColumn
learnt_columns a columns = map (learnt_column a) columns
