use Rattle.std.proofs.Common.{rules, tests}
use Rattle.pg_conn.specs.Connections.{seen_by}
use Rattle.pg_play.proofs.FeedingLaws.{copies_unmade, copies_unpolled}
use Rattle.pg_play.proofs.LockLaws.{copied_holds}
use Rattle.pg_play.proofs.copying.copy_in.Goals as goal

pub returns-then-step-eq0-clause-plays : goal.returns-then-step-eq0-clause-plays
returns-then-step-eq0-clause-plays g c = copies_unpolled (seen_by g.L.Link.seen c.args.conn.now) c.args.step.now c.args.copying.now c.untouched.result (search (rules, tests)) (search (rules, tests)) (search (rules, tests))

pub play_copy-requires-clause-polled : goal.play_copy-requires-clause-polled
play_copy-requires-clause-polled g c = record { some = search (rules, tests); polls = search (rules, tests); counts = search (rules, tests) }

pub returns-in-Err-clause-plays : goal.returns-in-Err-clause-plays
returns-in-Err-clause-plays g c = copies_unmade (seen_by g.L.Link.seen c.args.conn.now) c.args.step.now c.args.copying.now c.untouched-in-Err.result (search (rules, tests)) (search (rules, tests)) (search (rules, tests)) (search (rules, tests))

pub returns-in-Ok-clause-held : goal.returns-in-Ok-clause-held
returns-in-Ok-clause-held g c = copied_holds (seen_by g.L.Link.seen c.args.conn.now) (seen_by g.L.Link.seen c.play_copy.new.conn) c.args.step.now c.args.copying.now c.play_copy.result c.play_copy.ensures
