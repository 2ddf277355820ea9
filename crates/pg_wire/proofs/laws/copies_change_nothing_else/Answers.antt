use Rattle.pg_wire.proofs.PlainLaws.{run_plain}
use Rattle.pg_wire.proofs.laws.copies_change_nothing_else.Goals as goal

pub returns : goal.returns
returns c = run_plain
