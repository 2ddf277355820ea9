-- A row that tells something is refused for want of memory alone.
use Rattle.std.proofs.Common.{◌≡◌, ◌<◌, inl, inr, ℕ, zero, suc, arith}
use Rattle.pg_wire.specs.declared.error.Error.{Error}
use Rattle.pg_wire.specs.declared.error.Error.TheVariants as errors
use Rattle.pg_resolve.specs.declared.row.TypeResolverRow.{TypeResolverRow}
use Rattle.pg_resolve.specs.declared.row.ColumnResolverRow.{ColumnResolverRow}
use Rattle.pg_learning.specs.Lookups.{Values, IsRead, IsNoRow, IsTypeRow, IsColumnRow, type_columns, column_columns}

type_is_read : (values : Values) (row : TypeResolverRow) (place : ℕ) → place < 11 → IsTypeRow values row → IsRead type_columns values place
type_is_read values row zero lt h = (_, h.oid)
type_is_read values row (suc zero) lt h = (_, h.pretty_name)
type_is_read values row (suc (suc zero)) lt h = (_, h.catalog_name)
type_is_read values row (suc (suc (suc zero))) lt h = (_, h.original_name)
type_is_read values row (suc (suc (suc (suc zero)))) lt h = (_, h.typtype)
type_is_read values row (suc (suc (suc (suc (suc zero))))) lt h = (_, h.typcategory)
type_is_read values row (suc (suc (suc (suc (suc (suc zero)))))) lt h = (_, h.typelem)
type_is_read values row (suc (suc (suc (suc (suc (suc (suc zero))))))) lt h = (_, h.typbasetype)
type_is_read values row (suc (suc (suc (suc (suc (suc (suc (suc zero)))))))) lt h = (_, h.rngsubtype)
type_is_read values row (suc (suc (suc (suc (suc (suc (suc (suc (suc zero))))))))) lt h = (_, h.enum_labels)
type_is_read values row (suc (suc (suc (suc (suc (suc (suc (suc (suc (suc zero)))))))))) lt h = (_, h.record_attributes)
type_is_read values row (suc (suc (suc (suc (suc (suc (suc (suc (suc (suc (suc n))))))))))) lt h = absurd (omega (arith, lt))

column_is_read : (values : Values) (row : ColumnResolverRow) (place : ℕ) → place < 3 → IsColumnRow values row → IsRead column_columns values place
column_is_read values row zero lt h = (_, h.table_oid)
column_is_read values row (suc zero) lt h = (_, h.table_name)
column_is_read values row (suc (suc zero)) lt h = (_, h.columns)
column_is_read values row (suc (suc (suc n))) lt h = absurd (omega (arith, lt))

pub type_row_cause : (values : Values) (row : TypeResolverRow) (e : Error) → IsTypeRow values row → IsNoRow type_columns values e → e ≡ errors.OutOfMemory
type_row_cause values row e h (inl memory) = memory
type_row_cause values row e h (inr other) = absurd (other.2.2 (type_is_read values row other.0 other.2.0 h))

pub column_row_cause : (values : Values) (row : ColumnResolverRow) (e : Error) → IsColumnRow values row → IsNoRow column_columns values e → e ≡ errors.OutOfMemory
column_row_cause values row e h (inl memory) = memory
column_row_cause values row e h (inr other) = absurd (other.2.2 (column_is_read values row other.0 other.2.0 h))
