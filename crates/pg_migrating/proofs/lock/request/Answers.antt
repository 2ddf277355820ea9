use Rattle.std.proofs.Common.{◌∷◌, [], refl}
use Rattle.pg_call.specs.declared.kind.How.TheVariants as hows
use Rattle.pg_migrate.specs.Orders.{Int8}
use Rattle.pg_migrate.specs.Texts.{lock_text, unlock_text}
use Rattle.pg_migrating.proofs.BoundLaws.{asks_text, int8_image}
use Rattle.pg_migrating.proofs.lock.request.Goals as goal

pub returns-in-Lock : goal.returns-in-Lock
returns-in-Lock c =
    let bounds = Int8 c.args.id ∷ [] in
    let key = c.bind-key.ensures [] (Int8 c.args.id) refl (int8_image c.to_be_bytes.result c.args.id c.ranges.id c.to_be_bytes.ensures) c.none.ensures in
    rw c.in-Lock.is (asks_text hows.Execute lock_text c.lock_text.result.now bounds c.prepared.result c.lock_text.ensures (c.prepared.ensures bounds key))

pub returns-in-Unlock : goal.returns-in-Unlock
returns-in-Unlock c =
    let bounds = Int8 c.args.id ∷ [] in
    let key = c.bind-key.ensures [] (Int8 c.args.id) refl (int8_image c.to_be_bytes.result c.args.id c.ranges.id c.to_be_bytes.ensures) c.none.ensures in
    rw c.in-Unlock.is (asks_text hows.Execute unlock_text c.unlock_text.result.now bounds c.prepared-in-Unlock.result c.unlock_text.ensures (c.prepared-in-Unlock.ensures bounds key))
