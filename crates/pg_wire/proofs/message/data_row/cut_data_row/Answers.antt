use Rattle.std.proofs.Common.{refl}
use Rattle.pg_wire.proofs.PlaceLaws.{headed, row_unheaded}
use Rattle.pg_wire.proofs.message.data_row.cut_data_row.Goals as goal

pub returns-in_default : goal.returns-in_default
returns-in_default c = rw c.malformed.ensures (refl, row_unheaded c.args.frame.body (rw c.body-body.ensures at c.in_default.ensures))

pub cut_many-requires : goal.cut_many-requires
cut_many-requires c = headed c.args.frame.body c.in-Some.count _ (rw c.body-body.ensures at c.in-Some.ensures)

pub find_few-requires-clause-headed : goal.find_few-requires-clause-headed
find_few-requires-clause-headed c = headed c.body-body.result.now c.in-Some.count _ c.in-Some.ensures
