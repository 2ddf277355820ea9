use Rattle.std.proofs.Common.{refl}
use Rattle.pg_migrating.specs.Courses.{WorkSeen, statement_at}
use Rattle.pg_migrating.proofs.AskingLaws.{asks_quietly}
use Rattle.pg_migrating.proofs.running.RunMigration+C+K.new.Goals as goal

pub returns-clause-calling : goal.returns-clause-calling
returns-clause-calling g c =
    let work : WorkSeen = record { way = c.args.way; table = c.args.table.now; migration = c.args.migration.now } in
    asks_quietly c.depth-depth.result (statement_at work 0 c.first_step-step.result) c.request-question.result (g.C.PgExecutor.conn c.args.conn) c.request-question.ensures

pub returns-clause-stands : goal.returns-clause-stands
returns-clause-stands g c = record {
  step = c.first_step-step.ensures;
  open_is = refl;
  asks = rw c.depth-depth.ensures at c.request-question.ensures;
  conn_is = refl;
  clock_is = refl;
}
