use Rattle.std.proofs.Common.{rules, refl}
use Rattle.pg_copying.specs.declared.copy_in.PgCopyIn.{PgCopyIn}
use Rattle.pool_cases.proofs.CopyLaws.{still_open}
use Rattle.pool_cases.proofs.acts.polling.read.Goals as goal

pub loop-init : goal.loop-init
loop-init g c = record { over = c.read_from-state.ensures.ended; open_ = rw c.read_from-state.ensures.copy c.requires; same = refl }

pub returns-in_default : goal.returns-in_default
returns-in_default g c = still_open (λ (copy : PgCopyIn g.row.C.Denot g.row.C-L.Denot). g.C.PgExecutor.conn copy.conn) c.copy-1.given.0 c.poll.new.self.copy.now (search rules) c.in_default.ensures.open

pub returns : goal.returns
returns g c = still_open (λ (copy : PgCopyIn g.row.C.Denot g.row.C-L.Denot). g.C.PgExecutor.conn copy.conn) c.copy-2-1.given.0 c.loop.state.copy.now (search rules) c.loop.invariant.open_
