use Rattle.pg_locking.proofs.ReleaseLaws.{gives_up, takes}
use Rattle.pg_locking.proofs.laws.a_lock_that_is_given_up_is_released.Goals as goal

pub returns : goal.returns
returns c = record {
  gives_up = gives_up;
  takes = takes;
}
