-- Internal: what is read of a row in parts.
use Rattle.std.specs.Prelude.{ℕ, ◌≡◌, ◌≢◌, ◌⊎◌, List, Option}
use Rattle.pg_wire.specs.declared.error.Error.{Error}
use Rattle.pg_wire.specs.declared.error.Error.TheVariants as errors
use Rattle.pg_values.specs.Values.{IsTextOf, IsOidText}
use Rattle.pg_learning.specs.Texts.{IsTypType, IsTypCategory, Given, GivenOrNull, AreItems}
use Rattle.pg_learning.specs.Lookups.{Values, At, AreAttributes}
use Rattle.pg_learning.specs.declared.parts.Names.{Names}
use Rattle.pg_learning.specs.declared.parts.Codes.{Codes}
use Rattle.pg_learning.specs.declared.parts.Members.{Members}

-- want of memory is handed on, any other error becomes that of the column
abbrev pub IsOfColumn : Error → ℕ → Error → Type 0
IsOfColumn e place turned = ((e ≡ errors.OutOfMemory) × (turned ≡ errors.OutOfMemory)) ⊎ ((e ≢ errors.OutOfMemory) × (turned ≡ errors.ColumnDecode place))

-- nothing is read at this place, or memory was refused
abbrev pub IsNoColumn : {X : Type 0} → (Option (List ℕ) → X → Type 0) → Values → ℕ → Error → Type 0
IsNoColumn reads values place e = (e ≡ errors.OutOfMemory) ⊎ ((e ≡ errors.ColumnDecode place) × ((x : _) → At reads values place x → ⊥))

pub record AreNames (values : Values) (names : Names) : Type 0 where
  pub oid : At (Given IsOidText) values 0 names.oid
  pub pretty_name : At (Given IsTextOf) values 1 names.pretty_name
  pub catalog_name : At (Given IsTextOf) values 2 names.catalog_name
  pub original_name : At (GivenOrNull IsTextOf) values 3 names.original_name

pub record AreCodes (values : Values) (codes : Codes) : Type 0 where
  pub typtype : At (Given IsTypType) values 4 codes.typtype
  pub typcategory : At (Given IsTypCategory) values 5 codes.typcategory
  pub typelem : At (GivenOrNull IsOidText) values 6 codes.typelem
  pub typbasetype : At (GivenOrNull IsOidText) values 7 codes.typbasetype
  pub rngsubtype : At (GivenOrNull IsOidText) values 8 codes.rngsubtype

pub record AreMembers (values : Values) (members : Members) : Type 0 where
  pub enum_labels : At (Given (AreItems IsTextOf)) values 9 members.enum_labels
  pub record_attributes : At (Given AreAttributes) values 10 members.record_attributes
