use Rattle.pg_wire.proofs.SentLaws.{step_total, run_total}
use Rattle.pg_wire.proofs.laws.server_can_go_on.Goals as goal

pub returns-clause-step : goal.returns-clause-step
returns-clause-step c = step_total

pub returns-clause-run : goal.returns-clause-run
returns-clause-run c = run_total
