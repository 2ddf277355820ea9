use Rattle.std.proofs.Common.{refl}
use Rattle.futures.specs.declared.task.Poll.TheVariants.{Pending, Ready}
use Rattle.pg_call.specs.declared.kind.Kind.TheVariants as kinds
use Rattle.pg_call.specs.declared.request.Request.TheVariants as requests
use Rattle.pg_conn.proofs.NewsLaws.{drains_seen}
use Rattle.pg_conn.proofs.StateLaws.{poll_fits_within, started_calling}
use Rattle.pg_conn.proofs.connection.PgConnection.drain.Goals as goal

pub into_unit-requires : goal.into_unit-requires
into_unit-requires g c = record {
  plain = tt;
  fits = (poll_fits_within g.L.Link.seen c.args.left.now c.start.new.self c.poll_call_within.new.self kinds.Flush (Ready c.in-Ready.turn) c.in-Ready.ensures.polls (rw c.start.ensures (started_calling requests.Flush c.args.self.now refl))).0;
}

pub returns-in-Pending : goal.returns-in-Pending
returns-in-Pending g c =
    drains_seen g.L.Link.seen c.args.left.now c.poll_call_within.new.left c.args.self.now c.start.new.self c.poll_call_within.new.self Pending c.requires.keeping c.start.ensures c.in-Pending.ensures.polls c.in-Pending.ensures.rest c.in-Pending.ensures.kept

pub returns-in-Ready : goal.returns-in-Ready
returns-in-Ready g c =
    drains_seen g.L.Link.seen c.args.left.now c.poll_call_within.new.left c.args.self.now c.start.new.self c.poll_call_within.new.self (Ready c.into_unit.result) c.requires.keeping c.start.ensures (rw c.into_unit.ensures at c.in-Ready.ensures.polls) c.in-Ready.ensures.rest c.in-Ready.ensures.kept
