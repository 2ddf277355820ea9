use Rattle.std.proofs.Common.{ap, ◌∙◌, inl, inr, rules}
use Rattle.pg_conn.specs.Connections.{seen_by}
use Rattle.pg_play.proofs.FirstLaws.{seen_rolled}
use Rattle.pg_play.proofs.LockLaws.{step_holds}
use Rattle.pg_play.proofs.ShownLaws.{acts_later}
use Rattle.pg_play.proofs.stepping.play_step.Goals as goal

pub returns-in-StartRollback-clause-plays : goal.returns-in-StartRollback-clause-plays
returns-in-StartRollback-clause-plays g c =
    inl (inl (c.in-StartRollback.is, ap (seen_by g.L.Link.seen) c.start_rollback.ensures ∙ seen_rolled g.L.Link.seen c.args.conn.now, rw (c.progress.ensures, c.new.ensures.items) at c.outcome.ensures))

pub returns-in-StartRollback-clause-held : goal.returns-in-StartRollback-clause-held
returns-in-StartRollback-clause-held g c =
    step_holds (seen_by g.L.Link.seen c.args.conn.now) (seen_by g.L.Link.seen c.start_rollback.new.self) c.args.step.now c.outcome.result c.requires (returns-in-StartRollback-clause-plays g c)

pub returns-in-StartRollback-clause-counts : goal.returns-in-StartRollback-clause-counts
returns-in-StartRollback-clause-counts g c = rw (← c.transaction_depth-depth.ensures) (search rules)

pub returns-in_default : goal.returns-in_default
returns-in_default g c = record {
  held = step_holds (seen_by g.L.Link.seen c.args.conn.now) (seen_by g.L.Link.seen c.play_polled.new.conn) c.args.step.now c.play_polled.result c.requires (inr (acts_later c.args.step.now.call c.in_default.not-StartRollback c.requires, c.play_polled.ensures));
  plays = inr (acts_later c.args.step.now.call c.in_default.not-StartRollback c.requires, c.play_polled.ensures);
  counts = rw (← c.transaction_depth-depth.ensures) (search rules);
}
