use Rattle.std.proofs.Common.{refl}
use Rattle.pg_conn.specs.Connections.{seen_by}
use Rattle.pg_conn.proofs.FirstLaws.{fails_first_of, first_of, first_whole_of}
use Rattle.pg_conn.proofs.connection.PgConnection.poll_through.Goals as goal

pub returns : goal.returns
returns g c = first_of g.L.Link.seen c.args.self.now c.look_first.new.self (seen_by g.L.Link.seen c.poll_exchanges.new.self) c.poll_exchanges.result c.in_default.ensures.ok c.poll_exchanges.ensures

pub returns-in-Err : goal.returns-in-Err
returns-in-Err g c = fails_first_of g.L.Link.seen c.args.self.now c.look_first.new.self c.in-Err.e c.requires c.in-Err.ensures.err

pub poll_exchanges-requires : goal.poll_exchanges-requires
poll_exchanges-requires g c = first_whole_of g.L.Link.seen c.args.self.now c.look_first.new.self c.in_default.ensures.ok c.requires
