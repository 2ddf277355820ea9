-- Values by their kinds.
use Rattle.std.specs.Prelude.{◌≡◌, ℕ, List, Option, Some, None}
use Rattle.std.specs.Int.{w16, w32, w64}
use Rattle.pg_arguments.specs.Types.{TypeParts}
use Rattle.pg_values.specs.declared.format.PgValueFormat.{PgValueFormat}
use Rattle.pg_values.specs.Values.{ReadsBy, IsBool, IsBoolText, IsSigned, IsDecimal, IsTextOf, AreBytesOf, AreHexOf}
use Rattle.pg_any.specs.declared.kind.AnyKind.{AnyKind}
use Rattle.pg_any.specs.declared.kind.AnyKind.TheVariants as kinds
use Rattle.pg_any.specs.declared.value.AnyValue.{AnyValue}
use Rattle.pg_any.specs.declared.value.AnyValue.TheVariants as values
use Rattle.pg_any.specs.Kinds.{kind_of}

-- a value under its kind, of which something holds
abbrev pub Holds : {X : Type 0} → (X → AnyValue) → (X → Type 0) → AnyValue → Type 0
Holds under P value = (x : _) × (value ≡ under x) × P x

-- which value of a kind some bytes are in a format
abbrev pub ReadsAs : AnyKind → PgValueFormat → Option (List ℕ) → AnyValue → Type 0
ReadsAs kinds.Null format bytes value = value ≡ values.Null
ReadsAs kinds.Bool format bytes value = Holds values.Bool (ReadsBy IsBool IsBoolText format bytes) value
ReadsAs kinds.SmallInt format bytes value = Holds values.SmallInt (ReadsBy (IsSigned w16) (IsDecimal w16) format bytes) value
ReadsAs kinds.Integer format bytes value = Holds values.Integer (ReadsBy (IsSigned w32) (IsDecimal w32) format bytes) value
ReadsAs kinds.BigInt format bytes value = Holds values.BigInt (ReadsBy (IsSigned w64) (IsDecimal w64) format bytes) value
ReadsAs kinds.Blob format bytes value = Holds values.Blob (ReadsBy AreBytesOf AreHexOf format bytes) value
ReadsAs kinds.Text format bytes value = Holds values.Text (ReadsBy IsTextOf IsTextOf format bytes) value

-- a null is one of every kind
abbrev pub ReadsKind : AnyKind → PgValueFormat → Option (List ℕ) → AnyValue → Type 0
ReadsKind kind format None value = value ≡ values.Null
ReadsKind kind format (Some bytes) value = ReadsAs kind format (Some bytes) value

-- the type says the kind
abbrev pub ReadsAny : TypeParts → PgValueFormat → Option (List ℕ) → AnyValue → Type 0
ReadsAny of format bytes value = (kind : AnyKind) × (kind_of of ≡ Some kind) × ReadsKind kind format bytes value
