use Rattle.std.proofs.Common.{sym, refl, arith, map}
use Rattle.pg_wire.specs.Fields.{described}
use Rattle.pg_wire.proofs.ReaderLaws.{are_bytes}
use Rattle.pg_wire.proofs.FieldLaws.{columns_says, columns_none}
use Rattle.pg_wire.proofs.message.row_description.decode_row_description.Goals as goal

pub returns-in-Some-clause-exact : goal.returns-in-Some-clause-exact
returns-in-Some-clause-exact c = columns_says c.args.body.now (map described c.in-Some.fields.items) (are_bytes c.args.body.now (λ i. omega (arith, c.type_inv.body i))) (sym (rw c.in-Some.is at c.in_ok-fields.ensures.value))

pub returns-in-None-clause-exact : goal.returns-in-None-clause-exact
returns-in-None-clause-exact c = rw c.malformed.ensures (refl, columns_none c.args.body.now (sym (rw c.in-None.is at c.in_ok-fields.ensures.value)))
