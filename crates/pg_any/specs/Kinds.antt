-- Which types of PostgreSQL have a kind that drivers of several databases have in common (pg_type.dat of its sources has their OIDs).
use Rattle.std.specs.Prelude.{ℕ, List, Option, Some, None, ◌==◌, if◌then◌else◌, bytes_eq, codes}
use Rattle.pg_arguments.specs.Types.{TypeParts, oid_of, name_of}
use Rattle.pg_any.specs.declared.kind.AnyKind.{AnyKind}
use Rattle.pg_any.specs.declared.kind.AnyKind.TheVariants as kinds

-- BOOL, BYTEA, INT8, INT2, INT4, TEXT, VARCHAR and VOID
abbrev pub kind_under : ℕ → Option AnyKind
kind_under oid =
    if oid == 16 then Some kinds.Bool
    else if oid == 17 then Some kinds.Blob
    else if oid == 20 then Some kinds.BigInt
    else if oid == 21 then Some kinds.SmallInt
    else if oid == 23 then Some kinds.Integer
    else if oid == 25 then Some kinds.Text
    else if oid == 1043 then Some kinds.Text
    else if oid == 2278 then Some kinds.Null
    else None

-- a type without an OID is only declared; citext is an extension's, so its OID differs from database to database
abbrev pub kind_by : Option ℕ → List ℕ → Option AnyKind
kind_by (Some oid) name = kind_under oid
kind_by None name = if bytes_eq name (codes "citext") then Some kinds.Text else None

abbrev pub kind_of : TypeParts → Option AnyKind
kind_of of = kind_by (oid_of of) (name_of of)
