-- A column by the kind of its type.
use Rattle.std.specs.Prelude.{◌≡◌, Option, None, option_map}
use Rattle.pg_wire.specs.declared.error.Error.{Error}
use Rattle.pg_wire.specs.declared.error.Error.TheVariants as errors
use Rattle.pg_columns.specs.declared.column.PgColumn.{PgColumn}
use Rattle.pg_any.specs.declared.column.AnyColumn.{AnyColumn}
use Rattle.pg_any.specs.Kinds.{kind_of}

-- there is none where the type has no kind
abbrev pub any_column_of : PgColumn → Option AnyColumn
any_column_of column = option_map (λ kind. record { ordinal = column.ordinal; name = column.field.name; kind = kind }) (kind_of column.type_info)

abbrev pub RefusesColumn : PgColumn → Error → Type 0
RefusesColumn column errors.OutOfMemory = Unit {0}
RefusesColumn column (errors.ColumnDecode index) = (index ≡ column.ordinal) × (kind_of column.type_info ≡ None)
RefusesColumn column _ = ⊥
