use Rattle.std.proofs.Common.{sym, refl, arith}
use Rattle.pg_wire.proofs.ReaderLaws.{are_bytes}
use Rattle.pg_wire.proofs.MessageLaws.{status_says, status_none}
use Rattle.pg_wire.proofs.message.parameter_status.decode_parameter_status.Goals as goal

pub returns-in_ok-from_str-in-Some-2 : goal.returns-in_ok-from_str-in-Some-2
returns-in_ok-from_str-in-Some-2 c = rw (c.in_ok-from_str-in-Some.ensures, c.in_ok-from_str-in-Some-2.ensures) (status_says c.args.body.now c.in-Some.name.now c.in-Some.value.now (are_bytes c.args.body.now (λ i. omega (arith, c.type_inv.body i))) (sym c.in-Some.ensures))

pub returns-in-None : goal.returns-in-None
returns-in-None c = rw c.malformed.ensures (refl, status_none c.args.body.now (sym c.in-None.ensures))
