-- What a connection learns of types and of the names of columns, and which lookup comes next.
use Rattle.std.specs.Prelude.{◌≡◌, ◌≢◌, ◌⊎◌, ℕ, ℤ, Bool, true, false, is_some, List, [], ◌∷◌, ◌++◌, map, Option, Some, None, Result, Ok, Err, if◌then◌else◌}
use Rattle.std.specs.Int.{w16, cast_signed, cast_unsigned}
use Rattle.pg_wire.specs.declared.error.Error.{Error}
use Rattle.pg_wire.specs.declared.error.Error.TheVariants as errors
use Rattle.pg_wire.specs.Backend.{Values}
use Rattle.pg_columns.specs.declared.column.PgColumn.{PgColumn}
use Rattle.pg_resolve.specs.declared.row.TypeResolverRow.{TypeResolverRow}
use Rattle.pg_resolve.specs.declared.row.ColumnResolverRow.{ColumnResolverRow}
use Rattle.pg_resolve.specs.Cached.{CacheSeen, no_types, known, without_names}
use Rattle.pg_resolve.specs.Columns.{column_lookup}
use Rattle.pg_resolve.specs.Resolving.{ResolverSeen, Queries, Ends, by_oid, no_rows}
use Rattle.pg_resolve.specs.Settling.{Settles, KeepsSound, IsRefusal}
use Rattle.pg_resolve.specs.Tables.{TablesSeen, KeepsPart, column_named, no_tables, with_row}
use Rattle.pg_learning.specs.Lookups.{IsTypeRow, IsColumnRow, IsNoRow, type_columns, column_columns}
use Rattle.pg_learning.specs.declared.learnt.Learnt.{Learnt}
use Rattle.pg_learning.specs.declared.learnt.Seeking.{Seeking}
use Rattle.pg_learning.specs.declared.learnt.Seeking.TheVariants as seekings

abbrev pub learnt_none : Learnt
learnt_none = record { types = no_types; tables = no_tables; seeking = seekings.Nothing }

-- no OID is known any more by the name of its type
abbrev pub unnamed_types : Learnt → Learnt
unnamed_types a = record a { types = without_names a.types }

-- ---- what is asked

-- of these OIDs those that are neither built in nor looked up, in order, equal ones again
abbrev pub unknown : CacheSeen → List ℕ → List ℕ
unknown c [] = []
unknown c (oid ∷ oids) = if is_some (known c oid) then unknown c oids else oid ∷ unknown c oids

-- the types of parameters, and then those of columns
abbrev pub types_in : List ℕ → List PgColumn → List ℕ
types_in parameters columns = parameters ++ map (λ column. column.field.type_id) columns

-- they are to be looked up where they aren't known
abbrev pub begun_with : List ℕ → List PgColumn → Learnt → Learnt
begun_with parameters columns a = record a { seeking = seekings.Types (record no_rows { pushed = map by_oid (unknown a.types (types_in parameters columns)) }) }

-- a number as two bytes say it, as those of columns are
abbrev pub in_two_bytes : ℤ → ℤ
in_two_bytes z = cast_signed w16 (cast_unsigned w16 z)

-- a column of a table, where one of their names isn't known
abbrev pub unnamed_one : TablesSeen → Option ℕ → Option ℤ → List (ℕ × ℤ)
unnamed_one t (Some table) (Some attribute) = if is_some (column_named t table (in_two_bytes attribute)) then [] else (table, in_two_bytes attribute) ∷ []
unnamed_one t _ _ = []

abbrev pub unnamed : TablesSeen → List PgColumn → List (ℕ × ℤ)
unnamed t [] = []
unnamed t (column ∷ columns) = unnamed_one t column.field.relation_id column.field.relation_attribute_no ++ unnamed t columns

-- ---- the next lookup

-- behind those of types the names of columns are looked up, where they are wanted
abbrev pub SeeksNames : List PgColumn → Bool → Learnt → Option (List ℕ) → Learnt → Type 0
SeeksNames columns true a (Some text) b = (unnamed a.tables columns ≢ []) × (text ≡ column_lookup (unnamed a.tables columns)) × (b ≡ record a { seeking = seekings.Names [] })
SeeksNames columns true a None b = (unnamed a.tables columns ≡ []) × (b ≡ record a { seeking = seekings.Nothing })
SeeksNames columns false a text b = (text ≡ None) × (b ≡ record a { seeking = seekings.Nothing })

-- the next lookup of types, or where there is none and no row waits the one of names
abbrev pub SeeksTypes : ResolverSeen → List PgColumn → Bool → Learnt → Option (List ℕ) → Learnt → Type 0
SeeksTypes s columns names a text b = ((t : ResolverSeen) × (asked : List ℕ) × (text ≡ Some asked) × Queries s (Some asked) t × (b ≡ record a { seeking = seekings.Types t }))
    ⊎ (Queries s None s × (s.waiting ≡ []) × SeeksNames columns names a text b)

-- the text of the next lookup, where there is one
abbrev pub SeeksBy : Seeking → List PgColumn → Bool → Learnt → Option (List ℕ) → Learnt → Type 0
SeeksBy (seekings.Types s) columns names a text b = SeeksTypes s columns names a text b
SeeksBy _ columns names a text b = (text ≡ None) × (b ≡ record a { seeking = seekings.Nothing })

abbrev pub Seeks : List PgColumn → Bool → Learnt → Option (List ℕ) → Learnt → Type 0
Seeks columns names a text b = SeeksBy a.seeking columns names a text b

-- the next lookup of types alone
abbrev pub SeeksOn : Seeking → Option (List ℕ) → Seeking → Type 0
SeeksOn (seekings.Types s) (Some text) b = (t : ResolverSeen) × Queries s (Some text) t × (b ≡ seekings.Types t)
SeeksOn (seekings.Types s) None b = Queries s None s × (s.waiting ≡ []) × (b ≡ seekings.Types s)
SeeksOn a text b = (text ≡ None) × (b ≡ a)

-- why there is none: rows still wait where nothing more is asked
abbrev pub FailsSeeking : Seeking → Error → Type 0
FailsSeeking (seekings.Types s) e = Queries s None s × Ends s (Err e)
FailsSeeking _ e = ⊥

-- or memory was refused
abbrev pub IsUnsought : Learnt → Learnt → Error → Type 0
IsUnsought a b e = (e ≡ errors.OutOfMemory) ⊎ (FailsSeeking a.seeking e × (b ≡ a))

-- ---- a row of the lookup that is under way

-- a row of types is taken, and what waited for it; or it isn't one, or can't be taken
abbrev pub TakesType : ResolverSeen → Values → Learnt → Learnt → Result (Unit {0}) Error → Type 0
TakesType s values a b (Ok u) = (row : TypeResolverRow) × (t : ResolverSeen) × IsTypeRow values row × Settles row s a.types [] t b.types × KeepsSound row s a.types b.types × (b ≡ record a { types = b.types; seeking = seekings.Types t })
TakesType s values a b (Err e) = (b.tables ≡ a.tables) × ((IsNoRow type_columns values e × (b.types ≡ a.types)) ⊎ ((row : TypeResolverRow) × IsTypeRow values row × KeepsSound row s a.types b.types × IsRefusal row s a.types e))

-- the names that a row tells are kept
abbrev pub TakesNames : Values → Learnt → Learnt → Result (Unit {0}) Error → Type 0
TakesNames values a b (Ok u) = (row : ColumnResolverRow) × IsColumnRow values row × (b ≡ record a { tables = with_row row a.tables })
TakesNames values a b (Err e) = (b.types ≡ a.types) × ((IsNoRow column_columns values e × (b.tables ≡ a.tables)) ⊎ ((row : ColumnResolverRow) × IsColumnRow values row × KeepsPart row a.tables b.tables × (e ≡ errors.OutOfMemory)))

abbrev pub TakesBy : Seeking → Values → Learnt → Learnt → Result (Unit {0}) Error → Type 0
TakesBy (seekings.Types s) values a b result = TakesType s values a b result
TakesBy (seekings.Names asked) values a b result = TakesNames values a b result
TakesBy seekings.Nothing values a b result = (b ≡ a) × (result ≡ Ok tt)

abbrev pub TakesRow : Values → Learnt → Learnt → Result (Unit {0}) Error → Type 0
TakesRow values a b result = TakesBy a.seeking values a b result
