use Rattle.std.proofs.Common.{sym, refl, arith}
use Rattle.pg_wire.proofs.ReaderLaws.{are_bytes}
use Rattle.pg_wire.proofs.DetailLaws.{error_says, error_none}
use Rattle.pg_wire.proofs.message.error_response.decode_error_response.Goals as goal

pub returns-in_ok-new-in-Some : goal.returns-in_ok-new-in-Some
returns-in_ok-new-in-Some c = let given = rw c.in-Some.is at c.in_ok-fields.ensures in rw c.in_ok-new-in-Some.ensures (error_says c.args.body.now c.in-Some.fields (are_bytes c.args.body.now (λ i. omega (arith, c.type_inv.body i))) (sym given))

pub returns-in-None : goal.returns-in-None
returns-in-None c = rw c.malformed.ensures (refl, error_none c.args.body.now (sym (rw c.in-None.is at c.in_ok-fields.ensures)))
