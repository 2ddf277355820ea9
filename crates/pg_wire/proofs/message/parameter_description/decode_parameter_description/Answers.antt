use Rattle.std.proofs.Common.{sym, refl, arith}
use Rattle.pg_wire.proofs.ReaderLaws.{are_bytes}
use Rattle.pg_wire.proofs.ListLaws.{types_says, types_none}
use Rattle.pg_wire.proofs.message.parameter_description.decode_parameter_description.Goals as goal

pub returns-in-Some : goal.returns-in-Some
returns-in-Some c = rw c.from_vec.ensures (types_says c.args.body.now c.in-Some.types.items (are_bytes c.args.body.now (λ i. omega (arith, c.type_inv.body i))) (sym (rw c.in-Some.is at c.in_ok-types.ensures)))

pub returns-in-None : goal.returns-in-None
returns-in-None c = rw c.malformed.ensures (refl, types_none c.args.body.now (sym (rw c.in-None.is at c.in_ok-types.ensures)))
