use Rattle.std.proofs.Common.{◌≡◌, false}
use Rattle.pg_conn.specs.Connections.{is_over}
use Rattle.pool_cases.proofs.copying.give.Given as goal

abbrev pub invariant-loop : goal.invariant-loop
invariant-loop l = record {
  over : is_over l.state.request l.state.conn.conn.call ≡ false;
  named : l.state.conn.name ≡ 7;
}
