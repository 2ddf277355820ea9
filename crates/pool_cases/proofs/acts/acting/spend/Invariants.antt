use denote.Text.{Utf8}
use denote.Shadow.{shadow}
use Rattle.pg_conn.specs.Feeding.{IsFed}
use Rattle.pool_cases.proofs.acts.acting.spend.Given as goal

abbrev pub invariant-loop : goal.invariant-loop
invariant-loop g l = shadow (Utf8 l.acts) × IsFed (g.C.PgExecutor.conn l.copy.conn)
