-- What the text of a value means: of a number, a code, a name, and of arrays and records of these (PostgreSQL manual, "pg_type", "typcategory Codes").
use Rattle.std.specs.Prelude.{ℕ, ◌≡◌, List, [], ◌∷◌, Option, Some, None, IsUtf8}
use Rattle.pg_values.specs.Texts.{RecordTextOf, IsTextArray}
use Rattle.pg_resolve.specs.declared.codes.TypType.{TypType}
use Rattle.pg_resolve.specs.declared.codes.TypType.TheVariants as types
use Rattle.pg_resolve.specs.declared.codes.TypCategory.{TypCategory}
use Rattle.pg_resolve.specs.declared.codes.TypCategory.TheVariants as categories

abbrev pub typtype_code : TypType → ℕ
typtype_code types.Base = 98
typtype_code types.Composite = 99
typtype_code types.Domain = 100
typtype_code types.Enum = 101
typtype_code types.Pseudo = 112
typtype_code types.Range = 114

abbrev pub typcategory_code : TypCategory → ℕ
typcategory_code categories.Array = 65
typcategory_code categories.Boolean = 66
typcategory_code categories.Composite = 67
typcategory_code categories.DateTime = 68
typcategory_code categories.Enum = 69
typcategory_code categories.Geometric = 71
typcategory_code categories.Network = 73
typcategory_code categories.Numeric = 78
typcategory_code categories.Pseudo = 80
typcategory_code categories.Range = 82
typcategory_code categories.String = 83
typcategory_code categories.Timespan = 84
typcategory_code categories.User = 85
typcategory_code categories.BitString = 86
typcategory_code categories.Unknown = 88

-- a code is one byte
abbrev pub IsTypType : List ℕ → TypType → Type 0
IsTypType bytes t = bytes ≡ typtype_code t ∷ []

abbrev pub IsTypCategory : List ℕ → TypCategory → Type 0
IsTypCategory bytes t = bytes ≡ typcategory_code t ∷ []

-- a null is no value
abbrev pub Given : {X : Type 0} → (List ℕ → X → Type 0) → Option (List ℕ) → X → Type 0
Given means None x = ⊥
Given means (Some bytes) x = means bytes x

-- a null is None
abbrev pub GivenOrNull : {X : Type 0} → (List ℕ → X → Type 0) → Option (List ℕ) → Option X → Type 0
GivenOrNull means None None = Unit {0}
GivenOrNull means None (Some x) = ⊥
GivenOrNull means (Some bytes) None = ⊥
GivenOrNull means (Some bytes) (Some x) = means bytes x

-- an array, none of whose elements is null
abbrev pub AreItems : {X : Type 0} → (List ℕ → X → Type 0) → List ℕ → List X → Type 0
AreItems means bytes xs = IsTextArray (Given means) bytes xs

-- two fields, neither of them null
abbrev pub AreTwo : {X Y : Type 0} → (List ℕ → X → Type 0) → (List ℕ → Y → Type 0) → List (Option (List ℕ)) → X × Y → Type 0
AreTwo first second (a ∷ b ∷ []) p = Given first a p.0 × Given second b p.1
AreTwo first second _ p = ⊥

-- a record of two fields
abbrev pub IsPair : {X Y : Type 0} → (List ℕ → X → Type 0) → (List ℕ → Y → Type 0) → List ℕ → X × Y → Type 0
IsPair first second bytes p = (fields : List (Option (List ℕ))) × IsUtf8 bytes × RecordTextOf bytes fields × AreTwo first second fields p
