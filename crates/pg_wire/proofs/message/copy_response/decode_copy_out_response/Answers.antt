use Rattle.std.proofs.Common.{sym, refl, arith}
use Rattle.pg_wire.proofs.ReaderLaws.{are_bytes}
use Rattle.pg_wire.proofs.ListLaws.{out_says, out_none}
use Rattle.pg_wire.proofs.message.copy_response.decode_copy_out_response.Goals as goal

pub returns-in-Some : goal.returns-in-Some
returns-in-Some c = let given = rw c.in-Some.is at c.in_ok-data.ensures.value in let fits = rw c.in-Some.is at c.in_ok-data.ensures.fits in out_says c.args.body.now c.in-Some.data.format c.in-Some.data.format_codes fits (are_bytes c.args.body.now (λ i. omega (arith, c.type_inv.body i))) (sym given)

pub returns-in-None : goal.returns-in-None
returns-in-None c = rw c.malformed.ensures (refl, out_none c.args.body.now (sym (rw c.in-None.is at c.in_ok-data.ensures.value)))
