-- The query that asks the catalog of a statement's columns whether they may be null (PostgreSQL manual, "System Catalogs", pg_attribute).
use Rattle.std.specs.Prelude.{◌≡◌, ℕ, zero, suc, pos, false, List, [], ◌∷◌, ◌++◌, length, Option, Some, None, option_to_list, slice_get}
use Rattle.pg_arguments.specs.Types.{TypeParts}
use Rattle.pg_arguments.specs.Builtin.{type_under}
use Rattle.pg_arguments.specs.Encoded.{Encoded}
use Rattle.pg_arguments.specs.Encoding.{Encoding, Image, value_of}
use Rattle.pg_arguments.specs.Images.{optional, oid_image, signed16_image, signed32_image}
use Rattle.pg_arguments.specs.Arguments.{Arguments, HasValues}
use Rattle.pg_resolve.specs.Nullable.{nullable_text}
use Rattle.pg_columns.specs.declared.column.PgColumn.{PgColumn}
use Rattle.pg_request.specs.Queries.{QueryText}
use Rattle.pg_request.specs.Asked.{kept_query, sent_as}

-- a value as it stands among arguments
abbrev pub as_argument : Encoding → List (Option Encoded)
as_argument encoding = option_to_list (value_of encoding)

-- the arguments of the column at this place: the place, its table and its number in it, null where it is no column of a table
abbrev pub column_values : ℕ → PgColumn → List (Option Encoded)
column_values place column = as_argument (Image (signed32_image (pos place)))
    ++ as_argument (optional (λ oid. Image (oid_image oid)) column.field.relation_id)
    ++ as_argument (optional (λ number. Image (signed16_image number)) column.field.relation_attribute_no)

-- their types: int4, oid and int2
abbrev pub column_types : List TypeParts
column_types = type_under 23 ∷ type_under 26 ∷ type_under 21 ∷ []

abbrev pub values_at : ℕ → Option PgColumn → List (Option Encoded)
values_at place None = []
values_at place (Some column) = column_values place column

-- those of the first columns, so many, in their order
abbrev pub values_for : List PgColumn → ℕ → List (Option Encoded)
values_for columns zero = []
values_for columns (suc place) = values_for columns place ++ values_at place (slice_get columns place)

abbrev pub types_for : ℕ → List TypeParts
types_for zero = []
types_for (suc place) = types_for place ++ column_types

-- the query asks of these columns, all of them; its statement isn't kept
abbrev pub AsksNulls : List PgColumn → QueryText → Type 0
AsksNulls columns query = (a : Arguments) × HasValues a (values_for columns (length columns)) × (a.types ≡ types_for (length columns))
    × (query ≡ record (kept_query (nullable_text (length columns)) (sent_as a)) { persistent = false })

-- nothing is asked where there is no column
abbrev pub AsksOfAny : List PgColumn → Option QueryText → Type 0
AsksOfAny columns None = columns ≡ []
AsksOfAny columns (Some query) = AsksNulls columns query
