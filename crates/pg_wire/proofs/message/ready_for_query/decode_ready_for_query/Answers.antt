use Rattle.std.proofs.Common.{sym, refl}
use Rattle.pg_wire.proofs.MessageLaws.{ready_says, ready_none}
use Rattle.pg_wire.proofs.message.ready_for_query.decode_ready_for_query.Goals as goal

pub returns-in-Some-clause-exact : goal.returns-in-Some-clause-exact
returns-in-Some-clause-exact c = ready_says c.args.body.now c.in-Some.status (sym c.in-Some.ensures)

pub returns-in-None-clause-exact : goal.returns-in-None-clause-exact
returns-in-None-clause-exact c = rw c.malformed.ensures (refl, ready_none c.args.body.now (sym c.in-None.ensures))
