use Rattle.pg_conn.specs.Connections.{seen_by}
use Rattle.pg_script.specs.declared.step.Call.TheVariants as calls
use Rattle.pg_play.proofs.ChainLaws.{is_alone, is_flush}
use Rattle.pg_play.proofs.PlayLaws.{plays_alone}
use Rattle.pg_play.proofs.chaining.play_chain.Goals as goal

pub returns-in_default-clause-plays : goal.returns-in_default-clause-plays
returns-in_default-clause-plays g c =
    plays_alone (seen_by g.L.Link.seen c.args.conn.now) (seen_by g.L.Link.seen c.play_step.new.conn) c.args.guards.now.items c.args.step.now c.args.step.now c.play_step.result
    (is_alone c.args.step.now.call c.args.guards.now.items c.args.step.now c.play_step.result c.in_default.not-Chain (λ text e. c.in_default.not-Release text e)) c.play_step.ensures.counts c.play_step.ensures.plays

pub returns-in-Release-clause-plays : goal.returns-in-Release-clause-plays
returns-in-Release-clause-plays g c =
    plays_alone (seen_by g.L.Link.seen c.args.conn.now) (seen_by g.L.Link.seen c.play_flush.new.conn) c.args.guards.now.items c.args.step.now (record c.args.step.now { call = calls.Flush }) c.play_flush.result
    (is_flush c.args.step.now.call _ c.args.guards.now.items c.args.step.now c.play_flush.result c.in-Release.is) c.play_flush.ensures.counts c.play_flush.ensures.plays
