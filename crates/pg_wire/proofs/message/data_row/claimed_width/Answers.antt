use Rattle.pg_wire.proofs.RowLaws.{width_some, width_none}
use Rattle.pg_wire.proofs.message.data_row.claimed_width.Goals as goal

pub returns-in-Some : goal.returns-in-Some
returns-in-Some c = width_some c.args.body.now c.in-Some.count _ c.in-Some.ensures

pub returns-in-None : goal.returns-in-None
returns-in-None c = width_none c.args.body.now c.in-None.ensures
