-- The rows of the lookups, as a simple Query answers them: each value is a text, and None is a null.
use Rattle.std.specs.Prelude.{ℕ, ℤ, zero, suc, ◌≡◌, ◌⊎◌, ◌<◌, List, [], ◌∷◌, length, Option, MatchOption, slice_get}
use Rattle.std.specs.Int.{w16}
use Rattle.pg_wire.specs.declared.error.Error.{Error}
use Rattle.pg_wire.specs.declared.error.Error.TheVariants as errors
use Rattle.pg_values.specs.Values.{IsTextOf, IsOidText, IsDecimal}
use Rattle.pg_resolve.specs.declared.row.TypeResolverRow.{TypeResolverRow}
use Rattle.pg_resolve.specs.declared.row.ColumnResolverRow.{ColumnResolverRow}
use Rattle.pg_learning.specs.Texts.{IsTypType, IsTypCategory, Given, GivenOrNull, AreItems, IsPair}

abbrev pub Values : Type 0
Values = List (Option (List ℕ))

-- there is a column at this place, whose value is read so
abbrev pub At : {X : Type 0} → (Option (List ℕ) → X → Type 0) → Values → ℕ → X → Type 0
At reads values place x = MatchOption (slice_get values place) ⊥ (λ value. reads value x)

abbrev pub AreAttributes : List ℕ → List (List ℕ × ℕ) → Type 0
AreAttributes = AreItems (IsPair IsTextOf IsOidText)

abbrev pub AreColumns : List ℕ → List (ℤ × List ℕ) → Type 0
AreColumns = AreItems (IsPair (IsDecimal w16) IsTextOf)

-- ---- what a row tells

-- a row of the type lookup
pub record IsTypeRow (values : Values) (row : TypeResolverRow) : Type 0 where
  pub oid : At (Given IsOidText) values 0 row.oid
  pub pretty_name : At (Given IsTextOf) values 1 row.pretty_name
  pub catalog_name : At (Given IsTextOf) values 2 row.catalog_name
  pub original_name : At (GivenOrNull IsTextOf) values 3 row.original_name
  pub typtype : At (Given IsTypType) values 4 row.typtype
  pub typcategory : At (Given IsTypCategory) values 5 row.typcategory
  pub typelem : At (GivenOrNull IsOidText) values 6 row.typelem
  pub typbasetype : At (GivenOrNull IsOidText) values 7 row.typbasetype
  pub rngsubtype : At (GivenOrNull IsOidText) values 8 row.rngsubtype
  pub enum_labels : At (Given (AreItems IsTextOf)) values 9 row.enum_labels
  pub record_attributes : At (Given AreAttributes) values 10 row.record_attributes

-- a row of the column lookup
pub record IsColumnRow (values : Values) (row : ColumnResolverRow) : Type 0 where
  pub table_oid : At (Given IsOidText) values 0 row.table_oid
  pub table_name : At (Given IsTextOf) values 1 row.table_name
  pub columns : At (Given AreColumns) values 2 row.columns

-- ---- why there is no row

-- what holds of a place of a row
abbrev pub Column : Type 1
Column = Values → ℕ → Type 0

-- something is read there
abbrev pub Holds : {X : Type 0} → (Option (List ℕ) → X → Type 0) → Column
Holds reads values place = (x : _) × At reads values place x

abbrev pub type_columns : List Column
type_columns = Holds (Given IsOidText)
    ∷ Holds (Given IsTextOf)
    ∷ Holds (Given IsTextOf)
    ∷ Holds (GivenOrNull IsTextOf)
    ∷ Holds (Given IsTypType)
    ∷ Holds (Given IsTypCategory)
    ∷ Holds (GivenOrNull IsOidText)
    ∷ Holds (GivenOrNull IsOidText)
    ∷ Holds (GivenOrNull IsOidText)
    ∷ Holds (Given (AreItems IsTextOf))
    ∷ Holds (Given AreAttributes)
    ∷ []

abbrev pub column_columns : List Column
column_columns = Holds (Given IsOidText) ∷ Holds (Given IsTextOf) ∷ Holds (Given AreColumns) ∷ []

abbrev pub column_at : List Column → ℕ → Column
column_at [] n = λ values place. ⊥
column_at (column ∷ columns) zero = column
column_at (column ∷ columns) (suc n) = column_at columns n

-- the value at a place is read as that of its column
abbrev pub IsRead : List Column → Values → ℕ → Type 0
IsRead columns values place = column_at columns place values place

-- all columns before this place are read
abbrev pub AreReadBefore : List Column → Values → ℕ → Type 0
AreReadBefore columns values place = (earlier : ℕ) → earlier < place → IsRead columns values earlier

-- the first column of which nothing is read, be it missing, null or no such text
abbrev pub IsFirstUnread : List Column → Values → ℕ → Type 0
IsFirstUnread columns values place = (place < length columns) × AreReadBefore columns values place × (IsRead columns values place → ⊥)

-- memory was refused, or the error names that column
abbrev pub IsNoRow : List Column → Values → Error → Type 0
IsNoRow columns values e = (e ≡ errors.OutOfMemory) ⊎ ((place : ℕ) × (e ≡ errors.ColumnDecode place) × IsFirstUnread columns values place)
