use Rattle.std.proofs.Common.{◌≡◌, true}
use Rattle.pool_cases.proofs.acts.news.answers.Given as goal

abbrev pub invariant-loop : goal.invariant-loop
invariant-loop l = l.conn.stream.notifications.keeping ≡ true
