use Rattle.std.proofs.Common.{sym, refl, arith, Some, None}
use Rattle.pg_wire.proofs.ReaderLaws.{are_bytes}
use Rattle.pg_wire.proofs.RequestLaws.{are_names}
use Rattle.pg_wire.proofs.message.authentication.sasl.Goals as goal

pub returns-in-Some : goal.returns-in-Some
returns-in-Some c =
    let given = rw c.in-Some.is at c.in_ok-mechanisms.ensures in
    let names = are_names c.args.rest.now (Some c.in-Some.mechanisms) (are_bytes c.args.rest.now (λ i. omega (arith, c.type_inv.rest i))) (sym given) in
    (names.0, (refl, names.1, names.2))

pub returns-in-None : goal.returns-in-None
returns-in-None c = are_names c.args.rest.now None (are_bytes c.args.rest.now (λ i. omega (arith, c.type_inv.rest i))) (sym (rw c.in-None.is at c.in_ok-mechanisms.ensures))
