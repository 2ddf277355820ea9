use Rattle.std.proofs.Common.{◌≡◌, ◌++◌, length}
use Rattle.pg_conn.specs.News.{with_kept}
use Rattle.pg_listening.proofs.holding.save_news.Given as goal

abbrev pub invariant-loop-conn : goal.invariant-loop-conn
invariant-loop-conn g l = record {
  same : l.conn ≡ with_kept l.conn.stream.notifications l.initial.conn;
  moved : l.earlier.items ++ l.conn.stream.notifications.kept ≡ l.initial.earlier.items ++ l.initial.conn.stream.notifications.kept;
  keeping : l.conn.stream.notifications.keeping ≡ l.initial.conn.stream.notifications.keeping;
}

abbrev pub decreases-loop-conn : goal.decreases-loop-conn
decreases-loop-conn g l = length l.conn.stream.notifications.kept
