use Rattle.pg_locking.proofs.AskedLaws.{kept_runs, unkept_describes}
use Rattle.pg_locking.proofs.laws.a_statement_that_is_kept_is_run_at_once.Goals as goal

pub returns : goal.returns
returns c = record {
  kept = kept_runs;
  unkept = unkept_describes;
}
