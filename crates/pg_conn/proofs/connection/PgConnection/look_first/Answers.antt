use Rattle.std.proofs.Common.{rules, tests}
use Rattle.pg_conn.proofs.FirstLaws.{asks_ok, asks_err}
use Rattle.pg_conn.proofs.connection.PgConnection.look_first.Goals as goal

pub returns-in-Some-clause-ok : goal.returns-in-Some-clause-ok
returns-in-Some-clause-ok g c = asks_ok c.ask_first.result c.args.self.now c.resolve.new.self c.take_asked.new.self c.ask_first.new.self c.in-Some.told (search (rules, tests)) c.in_ok-resolve.ensures.ok (search (rules, tests)) c.take_asked.ensures.now c.ask_first.ensures.ok

pub returns-in-Some-clause-err : goal.returns-in-Some-clause-err
returns-in-Some-clause-err g c = asks_err c.ask_first.result c.args.self.now c.resolve.new.self c.take_asked.new.self c.ask_first.new.self c.in-Some.told (search (rules, tests)) c.in_ok-resolve.ensures.ok (search (rules, tests)) c.take_asked.ensures.now c.ask_first.ensures.err
