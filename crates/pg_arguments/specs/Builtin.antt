-- The types that every PostgreSQL has under the same OID (pg_type.dat of its sources), as far as this library knows them.
use Rattle.std.specs.Prelude.{ℕ, List, [], ◌∷◌, Option, Some, None, ◌==◌, if◌then◌else◌, codes, unwrap_or}
use Rattle.pg_arguments.specs.Types.{TypeParts, PartKind, Simple, Pseudo, single, array_over, numbered_type}

-- a type, and the OID of the array type over it, 0 where that isn't known
pub record Builtin : Type 0 where
  pub oid : ℕ
  pub name : List ℕ
  pub array : ℕ

abbrev row : ℕ → List ℕ → ℕ → Builtin
row oid name array = record { oid = oid; name = name; array = array }

unfoldable pub builtin_types : List Builtin
builtin_types =
    row 16 (codes "BOOL") 1000 ∷ row 17 (codes "BYTEA") 1001 ∷ row 18 (codes "\"CHAR\"") 1002 ∷ row 19 (codes "NAME") 1003
    ∷ row 20 (codes "INT8") 1016 ∷ row 21 (codes "INT2") 1005 ∷ row 23 (codes "INT4") 1007 ∷ row 25 (codes "TEXT") 1009
    ∷ row 26 (codes "OID") 1028 ∷ row 114 (codes "JSON") 199 ∷ row 700 (codes "FLOAT4") 1021 ∷ row 701 (codes "FLOAT8") 1022
    ∷ row 705 (codes "UNKNOWN") 0 ∷ row 790 (codes "MONEY") 0 ∷ row 1042 (codes "CHAR") 1014 ∷ row 1043 (codes "VARCHAR") 1015
    ∷ row 1082 (codes "DATE") 1182 ∷ row 1083 (codes "TIME") 1183 ∷ row 1114 (codes "TIMESTAMP") 1115
    ∷ row 1184 (codes "TIMESTAMPTZ") 1185 ∷ row 1186 (codes "INTERVAL") 0 ∷ row 1266 (codes "TIMETZ") 0
    ∷ row 1560 (codes "BIT") 0 ∷ row 1562 (codes "VARBIT") 0 ∷ row 1700 (codes "NUMERIC") 1231 ∷ row 2249 (codes "RECORD") 2287
    ∷ row 2278 (codes "VOID") 0 ∷ row 2950 (codes "UUID") 2951 ∷ row 3802 (codes "JSONB") 3807 ∷ []

-- VOID has no values; all others have
abbrev pub builtin_kind : ℕ → PartKind
builtin_kind oid = if oid == 2278 then Pseudo else Simple

abbrev pub single_of : Builtin → TypeParts
single_of b = single (Some b.oid) b.name (builtin_kind b.oid)

-- the type that a row has under an OID: its own, or the array over it
abbrev pub under : ℕ → Builtin → Option TypeParts
under oid b = if b.oid == oid then Some (single_of b) else if b.array == oid then Some (array_over (Some oid) (single_of b)) else None

abbrev pub or_else : Option TypeParts → Option TypeParts → Option TypeParts
or_else None y = y
or_else (Some x) y = Some x

-- the type of the first row that has one under this OID
abbrev pub first_under : ℕ → List Builtin → Option TypeParts
first_under oid [] = None
first_under oid (b ∷ bs) = or_else (under oid b) (first_under oid bs)

-- OID 0 is that of no type
abbrev pub builtin_type : ℕ → Option TypeParts
builtin_type oid = if oid == 0 then None else first_under oid builtin_types

-- the type under an OID: a built-in one, or else one that only its number is known of
abbrev pub type_under : ℕ → TypeParts
type_under oid = unwrap_or (builtin_type oid) (numbered_type oid)
