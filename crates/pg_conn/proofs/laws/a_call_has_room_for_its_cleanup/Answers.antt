use Rattle.pg_conn.proofs.StateLaws.{keeps_room, starts_with_room}
use Rattle.pg_conn.proofs.laws.a_call_has_room_for_its_cleanup.Goals as goal

pub returns : goal.returns
returns c = record {
  polls = keeps_room;
  more = λ a b answer h p. keeps_room a.stream.left a b answer h p;
  starts = starts_with_room;
}
