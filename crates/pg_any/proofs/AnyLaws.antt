-- Values and rows in their generic forms.
use Rattle.std.proofs.Common.{◌≡◌, ℕ, List, subst}
use Rattle.std.specs.Prelude.{Option, Some, Result, Ok, Err, IfErr}
use Rattle.pg_wire.specs.declared.error.Error.{Error}
use Rattle.pg_wire.specs.declared.error.Error.TheVariants as errors
use Rattle.pg_arguments.specs.Types.{TypeParts}
use Rattle.pg_values.specs.Values.{IsNoValue}
use Rattle.pg_values.specs.declared.format.PgValueFormat.{PgValueFormat}
use Rattle.pg_any.specs.declared.kind.AnyKind.{AnyKind}
use Rattle.pg_any.specs.declared.value.AnyValue.{AnyValue}
use Rattle.pg_any.specs.Kinds.{kind_of}
use Rattle.pg_any.specs.Values.{Holds, ReadsAny, ReadsKind}

-- what is no value is none under its kind either
pub under_none : {X : Type 0} (under : X → AnyValue) (P : X → Type 0) (e : Error) → IsNoValue P e → IsNoValue (Holds under P) e
under_none under P errors.OutOfMemory n = tt
under_none under P errors.Decode n = λ value held. n held.0 held.2
under_none under P _ n = absurd n

-- what is no value of a type's kind is none of the type
pub kind_none : (of : TypeParts) (kind : AnyKind) (format : PgValueFormat) (bytes : Option (List ℕ)) (e : Error) → kind_of of ≡ Some kind → IsNoValue (ReadsKind kind format bytes) e → IsNoValue (ReadsAny of format bytes) e
kind_none of kind format bytes errors.OutOfMemory is n = tt
kind_none of kind format bytes errors.Decode is n = λ value read. let same : read.0 ≡ kind = cc (read.1) in n value (subst (λ (k : AnyKind). ReadsKind k format bytes value) same read.2)
kind_none of kind format bytes _ is n = absurd n

pub kind_refused : (of : TypeParts) (kind : AnyKind) (format : PgValueFormat) (bytes : Option (List ℕ)) (r : Result AnyValue Error) → kind_of of ≡ Some kind → IfErr r (IsNoValue (ReadsKind kind format bytes)) → IfErr r (IsNoValue (ReadsAny of format bytes))
kind_refused of kind format bytes (Ok value) is n = tt
kind_refused of kind format bytes (Err e) is n = kind_none of kind format bytes e is n
