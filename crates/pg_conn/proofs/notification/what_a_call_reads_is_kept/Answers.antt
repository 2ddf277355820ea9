use Rattle.pg_conn.proofs.NewsLaws.{reads_within, reads_more, reads_started, reads_left}
use Rattle.pg_conn.proofs.notification.what_a_call_reads_is_kept.Goals as goal

pub returns : goal.returns
returns c = record {
  polls = reads_within;
  more = reads_more;
  starts = λ a request k. reads_started request a k;
  leaves = reads_left;
}
