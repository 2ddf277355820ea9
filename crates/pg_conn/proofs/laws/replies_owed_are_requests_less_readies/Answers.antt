use Rattle.pg_conn.proofs.LedgerLaws.{owes_poll, owes_started, owes_left, owes_rolled_back}
use Rattle.pg_conn.proofs.HoldingLaws.{owes_gave_up, owes_next, owes_took_held}
use Rattle.pg_conn.proofs.laws.replies_owed_are_requests_less_readies.Goals as goal

pub returns : goal.returns
returns c = record {
  polls = owes_poll;
  more = λ kind a b answer i p. owes_poll kind a.stream.left a b answer i p;
  starts = owes_started;
  goes_on = owes_next;
  leaves = owes_left;
  rolls_back = owes_rolled_back;
  gives_up = λ a unlock. owes_gave_up unlock a;
  takes_held = λ a unlock. owes_took_held unlock a;
}
