-- What the arguments that a script gives are as arguments of a call (PostgreSQL manual, "pg_type", and the send functions of the types).
use Rattle.std.specs.Prelude.{◌≡◌, ℕ, Bool, List, [], map, Option, Some, None}
use Rattle.pg_request.specs.Queries.{QueryText}
use Rattle.pg_request.specs.Asked.{bytes_of, names_in}
use Rattle.pg_arguments.specs.Types.{TypeParts, named_type}
use Rattle.pg_arguments.specs.Builtin.{type_under}
use Rattle.pg_arguments.specs.Encoded.{Encoded, plain}
use Rattle.pg_arguments.specs.Encoding.{Encoding, Null, Image}
use Rattle.pg_arguments.specs.Images.{bool_image, signed16_image, signed32_image, signed64_image, oid_image}
use Rattle.pg_arguments.specs.Arrays.{elements, array_encoding}
use Rattle.pg_arguments.specs.Arguments.{Arguments, HasValues}
use Rattle.pg_script.specs.declared.argument.Bare.{Bare}
use Rattle.pg_script.specs.declared.argument.Bare.TheVariants as bare
use Rattle.pg_script.specs.declared.argument.Argument.{Argument}
use Rattle.pg_script.specs.declared.argument.Argument.TheVariants as given
use Rattle.pg_script.specs.Reading.{◌>>=◌}

-- the OID of its type
abbrev pub bare_oid : Bare → ℕ
bare_oid (bare.Null oid) = oid
bare_oid (bare.Bool b) = 16
bare_oid (bare.Int2 z) = 21
bare_oid (bare.Int4 z) = 23
bare_oid (bare.Int8 z) = 20
bare_oid (bare.Oid n) = 26
bare_oid (bare.Int4s zs) = 1007

abbrev pub argument_oid : Argument → ℕ
argument_oid (given.Bare b) = bare_oid b
argument_oid (given.Text s) = 25
argument_oid (given.Bytea s) = 17
argument_oid (given.Texts ss) = 1009
argument_oid (given.Named name image) = 0

-- a type that is known by its name alone has no OID yet
abbrev pub argument_type : Argument → TypeParts
argument_type (given.Named name image) = named_type name
argument_type a = type_under (argument_oid a)

-- its binary encoding
abbrev pub bare_encoding : Bare → Encoding
bare_encoding (bare.Null oid) = Null
bare_encoding (bare.Bool b) = Image (bool_image b)
bare_encoding (bare.Int2 z) = Image (signed16_image z)
bare_encoding (bare.Int4 z) = Image (signed32_image z)
bare_encoding (bare.Int8 z) = Image (signed64_image z)
bare_encoding (bare.Oid n) = Image (oid_image n)
bare_encoding (bare.Int4s zs) = array_encoding (type_under 23) (elements (λ z. Image (signed32_image z)) zs)

abbrev pub argument_encoding : Argument → Encoding
argument_encoding (given.Bare b) = bare_encoding b
argument_encoding (given.Text s) = Image (plain s)
argument_encoding (given.Bytea s) = Image (plain s)
argument_encoding (given.Named name image) = Image (plain image)
argument_encoding (given.Texts ss) = array_encoding (type_under 25) (elements (λ s. Image (plain s)) ss)

-- a query with these arguments, which have these values, and whose statement is to be kept or not
abbrev pub given_with : Bool → List ℕ → List Argument → List (Option Encoded) → QueryText
given_with persistent sql arguments values = record { sql = sql; arguments = Some (record { types = map argument_oid arguments; values = bytes_of values; names = names_in (map argument_type arguments); holes = []; open_in = None }); persistent = persistent }

-- the same, where each argument has an encoding, which may have 2147483647 bytes
abbrev pub given_query : Bool → List ℕ → List Argument → Option QueryText
given_query persistent sql arguments = elements argument_encoding arguments >>= λ values. Some (given_with persistent sql arguments values)

-- the arguments of a call are those that are given
pub record AreEncoded (arguments : List Argument) (a : Arguments) : Type 0 where
  pub values : List (Option Encoded)
  pub encoded : elements argument_encoding arguments ≡ Some values
  pub types : a.types ≡ map argument_type arguments
  pub made : HasValues a values
