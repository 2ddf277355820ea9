use Rattle.pg_play.proofs.RefutedLaws.{no_ok_without_row}
use Rattle.pg_play.proofs.laws.an_ok_without_the_row_is_no_play.Goals as goal

pub returns : goal.returns
returns c = no_ok_without_row
