use Rattle.std.proofs.Common.{rules, ap, refl, w64, FitsSigned}
use Rattle.std.specs.Prelude.{ℤ, true}
use Rattle.pg_call.specs.declared.kind.How.TheVariants as hows
use Rattle.pg_migrating.specs.Locks.{lock_statement}
use Rattle.pg_migrating.specs.Requests.{IsRequestOf}
use Rattle.pg_migrating.proofs.BoundLaws.{kept_int8}
use Rattle.pg_migrating.proofs.LockLaws.{lock_goes, lock_stands, name_hidden}
use Rattle.pg_migrating.proofs.lock.MigrationLock+C.poll_name.Goals as goal

pub returns-in-Ok-clause-goes : goal.returns-in-Ok-clause-goes
returns-in-Ok-clause-goes g c =
    let way = c.args.self.now.way in
    let fits : FitsSigned w64 c.in-Ok.id = search rules in
    let asks = kept_int8 (λ (z : ℤ). IsRequestOf hows.Execute 0 (lock_statement way z) c.request-question.result) c.in-Ok.id fits c.request-question.ensures in
    lock_goes way c.in-Ok.id true c.ask.new.self.question (g.C.PgExecutor.conn c.ask.new.self.conn) refl (rw c.ask.ensures asks)

pub returns-in-Ok-clause-tells : goal.returns-in-Ok-clause-tells
returns-in-Ok-clause-tells g c first s =
    let way = c.args.self.now.way in
    let fits : FitsSigned w64 c.in-Ok.id = search rules in
    let asks = kept_int8 (λ (z : ℤ). IsRequestOf hows.Execute 0 (lock_statement way z) c.request-question.result) c.in-Ok.id fits c.request-question.ensures in
    lock_stands g.C.L.Link.seen way first (g.C.PgExecutor.conn c.poll.new.self.conn) (g.C.PgExecutor.conn c.ask.new.self.conn) c.in-Ready.turn c.in-Ok.id s.0 c.ask.new.self.question (ap (λ x. g.C.PgExecutor.conn x.conn) c.ask.ensures) c.in-Ok.ensures s.1 (c.in-Ready.ensures.tells s.0 first s.2) (rw c.ask.ensures asks)

pub returns-in-Err-clause-goes : goal.returns-in-Err-clause-goes
returns-in-Err-clause-goes g c = (c.requires.named, c.poll.ensures.question, tt)

pub returns-in-Err-clause-tells : goal.returns-in-Err-clause-tells
returns-in-Err-clause-tells g c first s = name_hidden g.C.L.Link.seen c.args.self.now.way first (g.C.PgExecutor.conn c.poll.new.self.conn) c.in-Ready.turn c.in-Err.e s.0 c.in-Err.ensures s.1 (c.in-Ready.ensures.tells s.0 first s.2)
