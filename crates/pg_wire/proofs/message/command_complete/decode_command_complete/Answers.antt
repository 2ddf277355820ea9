use Rattle.std.proofs.Common.{sym, refl, arith}
use Rattle.pg_wire.specs.Backend as backend
use Rattle.pg_wire.proofs.ReaderLaws.{are_bytes}
use Rattle.pg_wire.proofs.MessageLaws.{complete_says, complete_none}
use Rattle.pg_wire.proofs.message.command_complete.decode_command_complete.Goals as goal

pub returns-in-Some-clause-exact : goal.returns-in-Some-clause-exact
returns-in-Some-clause-exact c = (backend.CommandComplete c.in-Some.tag.now, (c.in-Some.tag.now, refl, c.rows_of.ensures), complete_says c.args.body.now c.in-Some.tag.now (are_bytes c.args.body.now (λ i. omega (arith, c.type_inv.body i))) (sym c.in-Some.ensures))

pub returns-in-None-clause-exact : goal.returns-in-None-clause-exact
returns-in-None-clause-exact c = rw c.malformed.ensures (refl, complete_none c.args.body.now (sym c.in-None.ensures))
