use Rattle.pg_resolve.proofs.OrderLaws.{all_sound, all_kept}
use Rattle.pg_resolve.proofs.laws.rows_may_come_in_any_order.Goals as goal

pub returns-clause-sound : goal.returns-clause-sound
returns-clause-sound c = all_sound

pub returns-clause-kept : goal.returns-clause-kept
returns-clause-kept c = all_kept
