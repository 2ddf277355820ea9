use Rattle.std.proofs.Common.{sym, refl, arith}
use Rattle.pg_wire.specs.Backend.{RowDescription}
use Rattle.pg_wire.specs.Reading.{field_at}
use Rattle.pg_wire.proofs.ReaderLaws.{are_bytes}
use Rattle.pg_wire.proofs.FieldLaws.{columns_says, columns_none}
use Rattle.pg_wire.proofs.RowLaws.{count_says, count_none}
use Rattle.pg_wire.proofs.message.row_description.check_row_description.Goals as goal

pub returns-in-Some : goal.returns-in-Some
returns-in-Some c =
    let s = count_says field_at c.args.body.now c.in-Some.count (sym (rw c.in-Some.is at c.count_fields.ensures)) in
    (RowDescription s.0, (s.0, refl, s.2), columns_says c.args.body.now s.0 (are_bytes c.args.body.now (λ i. omega (arith, c.type_inv.body i))) s.1)

pub returns-in-None : goal.returns-in-None
returns-in-None c = rw c.malformed.ensures (refl, columns_none c.args.body.now (count_none field_at c.args.body.now (sym (rw c.in-None.is at c.count_fields.ensures))))
