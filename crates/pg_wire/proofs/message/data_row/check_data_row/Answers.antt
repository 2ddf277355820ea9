use Rattle.std.proofs.Common.{sym, refl, arith}
use Rattle.pg_wire.specs.Backend.{DataRow}
use Rattle.pg_wire.specs.Reading.{value_at}
use Rattle.pg_wire.proofs.ReaderLaws.{are_bytes}
use Rattle.pg_wire.proofs.ListLaws.{row_says, row_none}
use Rattle.pg_wire.proofs.RowLaws.{count_says, count_none}
use Rattle.pg_wire.proofs.message.data_row.check_data_row.Goals as goal

pub returns-in-Some : goal.returns-in-Some
returns-in-Some c =
    let s = count_says value_at c.args.body.now c.in-Some.count (sym (rw c.in-Some.is at c.count_values.ensures)) in
    (DataRow s.0, (s.0, refl, s.2), row_says c.args.body.now s.0 (are_bytes c.args.body.now (λ i. omega (arith, c.type_inv.body i))) s.1)

pub returns-in-None : goal.returns-in-None
returns-in-None c = rw c.malformed.ensures (refl, row_none c.args.body.now (count_none value_at c.args.body.now (sym (rw c.in-None.is at c.count_values.ensures))))
