use Rattle.pg_locking.proofs.RoomLaws.{all_flag, all_forgot, all_left_asking, all_left_locking, all_left_releasing, all_lock}
use Rattle.pg_locking.proofs.laws.a_connection_has_room_for_its_releases.Goals as goal

pub returns : goal.returns
returns c = record {
  locks = all_lock;
  leaves_lock = all_left_locking;
  flags = all_flag;
  leaves_flag = all_left_asking;
  forgets = all_forgot;
  leaves_release = all_left_releasing;
}
