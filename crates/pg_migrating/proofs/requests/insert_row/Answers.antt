use Rattle.std.proofs.Common.{rules, ◌∷◌, [], FitsSigned, refl, sym, w64}
use Rattle.pg_migrate.specs.Orders.{Int8, Words, Bytes}
use Rattle.pg_migrating.proofs.BoundLaws.{int8_image}
use Rattle.pg_migrating.proofs.requests.insert_row.Goals as goal

pub returns : goal.returns
returns c =
    let m = c.args.migration.now in
    let fits : FitsSigned w64 c.version_of.result = search rules in
    let image = rw c.version_of.ensures at (int8_image c.to_be_bytes.result c.version_of.result fits c.to_be_bytes.ensures) in
    let version = c.bind-version.ensures [] (Int8 m.version) refl image c.none.ensures in
    let described = c.bind-described.ensures (Int8 m.version ∷ []) (Words m.description) refl (sym c.as_bytes.ensures) version in
    let row = c.bind-row.ensures (Int8 m.version ∷ Words m.description ∷ []) (Bytes m.checksum) refl (sym c.as_bytes-2.ensures) described in
    c.named.ensures (Int8 m.version ∷ Words m.description ∷ Bytes m.checksum ∷ []) row
