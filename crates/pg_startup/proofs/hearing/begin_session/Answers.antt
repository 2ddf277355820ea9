use Rattle.pg_stream.specs.Streams.{framed}
use Rattle.pg_startup.proofs.ReplyLaws.{hears_keys, hears_ready}
use Rattle.pg_startup.proofs.hearing.begin_session.Goals as goal

pub returns-in_ok-keys-in-75-clause-ok : goal.returns-in_ok-keys-in-75-clause-ok
returns-in_ok-keys-in-75-clause-ok c = hears_keys (framed c.args.tag c.args.body.now) c.args.keys c.in_ok-keys-in-75.keys c.none.result (rw c.in-75.is c.in_ok-keys-in-75.ensures.exact) c.none.ensures

pub returns-in_ok-status-in-90-clause-ok : goal.returns-in_ok-status-in-90-clause-ok
returns-in_ok-status-in-90-clause-ok c = hears_ready (framed c.args.tag c.args.body.now) c.args.keys c.in_ok-status-in-90.status c.none-in-90.result (rw c.in-90.is c.in_ok-status-in-90.ensures.exact) c.none-in-90.ensures
