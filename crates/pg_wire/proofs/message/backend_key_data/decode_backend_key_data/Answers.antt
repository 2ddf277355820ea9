use Rattle.std.proofs.Common.{sym, refl, arith}
use Rattle.pg_wire.proofs.ReaderLaws.{are_bytes}
use Rattle.pg_wire.proofs.MessageLaws.{key_says, key_none}
use Rattle.pg_wire.proofs.message.backend_key_data.decode_backend_key_data.Goals as goal

pub returns-in-Some-clause-exact : goal.returns-in-Some-clause-exact
returns-in-Some-clause-exact c = key_says c.args.body.now c.in-Some.data.process_id c.in-Some.data.secret_key (are_bytes c.args.body.now (λ i. omega (arith, c.type_inv.body i))) (sym c.in-Some.ensures)

pub returns-in-None-clause-exact : goal.returns-in-None-clause-exact
returns-in-None-clause-exact c = rw c.malformed.ensures (refl, key_none c.args.body.now (sym c.in-None.ensures))
