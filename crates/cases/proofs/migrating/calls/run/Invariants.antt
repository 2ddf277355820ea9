use Rattle.std.proofs.Common.{◌≡◌, true}
use Rattle.pg_migrating.specs.Asking.{CallsQuietly, is_asked}
use Rattle.cases.proofs.migrating.calls.run.Given as goal

abbrev pub invariant-loop : goal.invariant-loop
invariant-loop g l = record {
  over : is_asked l.state.asking.question (g.C.PgExecutor.conn l.state.asking.conn).call ≡ true;
  calling : CallsQuietly l.state.asking.question (g.C.PgExecutor.conn l.state.asking.conn);
}
