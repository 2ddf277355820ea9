use Rattle.std.proofs.Common.{rules, ◌∷◌, [], FitsSigned, refl, w64}
use Rattle.pg_call.specs.declared.kind.How.TheVariants as hows
use Rattle.pg_migrate.specs.Clocks.{as_int8}
use Rattle.pg_migrate.specs.Orders.{Int8, Words, Bytes}
use Rattle.pg_migrate.specs.Texts.{delete_row_text, insert_row_text, update_time_text}
use Rattle.pg_migrating.proofs.BoundLaws.{at_depth, int8_image}
use Rattle.pg_migrating.proofs.course.Work.request.Goals as goal

pub returns-in-Apply : goal.returns-in-Apply
returns-in-Apply c =
    let m = c.self.inside.migration.now in
    let bounds = Int8 m.version ∷ Words m.description ∷ Bytes m.checksum ∷ [] in
    rw (← c.self.view_is, c.in-Row.is, c.in-Apply.is) (at_depth hows.Execute c.args.depth (insert_row_text c.self.inside.table.now) bounds c.insert_row.result c.insert_row.ensures)

pub returns-in-Revert : goal.returns-in-Revert
returns-in-Revert c =
    let m = c.self.inside.migration.now in
    let fits : FitsSigned w64 c.version_of.result = search rules in
    let image = rw c.version_of.ensures at (int8_image c.to_be_bytes-version.result c.version_of.result fits c.to_be_bytes-version.ensures) in
    let bounds = Int8 m.version ∷ [] in
    rw (← c.self.view_is, c.in-Row.is, c.in-Revert.is) (at_depth hows.Execute c.args.depth (delete_row_text c.self.inside.table.now) bounds c.named.result (c.named.ensures bounds (c.bind-row.ensures [] (Int8 m.version) refl image c.none.ensures)))

pub returns-in-Time : goal.returns-in-Time
returns-in-Time c =
    let m = c.self.inside.migration.now in
    let fits : FitsSigned w64 c.version_of.result = search rules in
    let fits_too : FitsSigned w64 c.as_int8.result = search rules in
    let image = rw c.version_of.ensures at (int8_image c.to_be_bytes-version.result c.version_of.result fits c.to_be_bytes-version.ensures) in
    let time_image = rw c.as_int8.ensures at (int8_image c.to_be_bytes.result c.as_int8.result fits_too c.to_be_bytes.ensures) in
    let time = c.bind-time.ensures [] (Int8 (as_int8 c.args.nanos)) refl time_image c.none-in-Time.ensures in
    let bounds = Int8 (as_int8 c.args.nanos) ∷ Int8 m.version ∷ [] in
    let both = c.bind-both.ensures (Int8 (as_int8 c.args.nanos) ∷ []) (Int8 m.version) refl image time in
    rw (← c.self.view_is, c.in-Time.is) (at_depth hows.Execute c.args.depth (update_time_text c.self.inside.table.now) bounds c.named-in-Time.result (c.named-in-Time.ensures bounds both))
