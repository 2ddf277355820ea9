use Rattle.pg_play.proofs.RefutedLaws.{no_total_of_zero}
use Rattle.pg_play.proofs.laws.a_total_of_zero_is_no_play.Goals as goal

pub returns : goal.returns
returns c = no_total_of_zero
