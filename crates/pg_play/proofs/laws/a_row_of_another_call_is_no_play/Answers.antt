use Rattle.pg_play.proofs.RefutedLaws.{no_other_row}
use Rattle.pg_play.proofs.laws.a_row_of_another_call_is_no_play.Goals as goal

pub returns : goal.returns
returns c = no_other_row
