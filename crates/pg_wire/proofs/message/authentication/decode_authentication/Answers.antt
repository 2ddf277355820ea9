use Rattle.std.proofs.Common.{sym, refl, arith}
use Rattle.pg_wire.proofs.ReaderLaws.{are_bytes}
use Rattle.pg_wire.proofs.RequestLaws.{asked, not_asked, no_code}
use Rattle.pg_wire.proofs.message.authentication.decode_authentication.Goals as goal

pub returns-in-Some-2 : goal.returns-in-Some-2
returns-in-Some-2 c = asked c.args.body.now c.in-Some.code c.in-Some.rest.now c.in-Some-2.request (are_bytes c.args.body.now (λ i. omega (arith, c.type_inv.body i))) (sym c.in-Some.ensures) (rw c.in-Some-2.is at c.in_ok-request-in-Some.ensures)

pub returns-in-None-2 : goal.returns-in-None-2
returns-in-None-2 c = rw c.malformed.ensures (refl, not_asked c.args.body.now c.in-Some.code c.in-Some.rest.now (sym c.in-Some.ensures) (rw c.in-None-2.is at c.in_ok-request-in-Some.ensures))

pub returns-in-None : goal.returns-in-None
returns-in-None c = rw c.malformed-in-None.ensures (refl, no_code c.args.body.now (sym c.in-None.ensures))
