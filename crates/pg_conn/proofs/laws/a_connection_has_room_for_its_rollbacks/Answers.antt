use Rattle.pg_conn.proofs.StateLaws.{keeps_all_room}
use Rattle.pg_conn.proofs.CleanupLaws.{all_started, all_left, all_rolled_back, all_fresh}
use Rattle.pg_conn.proofs.HoldingLaws.{all_gave_up, all_held, all_next, all_took_held}
use Rattle.pg_conn.proofs.laws.a_connection_has_room_for_its_rollbacks.Goals as goal

pub returns : goal.returns
returns c = record {
  polls = keeps_all_room;
  more = λ a b answer h p. keeps_all_room a.stream.left a b answer h p;
  starts = all_started;
  goes_on = all_next;
  leaves = all_left;
  rolls_back = all_rolled_back;
  holds = all_held;
  gives_up = λ a unlock r h. all_gave_up unlock a r h;
  takes_held = λ a unlock r h. all_took_held unlock a r h;
  fresh = all_fresh;
}
