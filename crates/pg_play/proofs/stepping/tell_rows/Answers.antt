use Rattle.std.proofs.Common.{arith, refl, ◌∙◌}
use Rattle.pg_call.specs.declared.answer.CallItem.TheVariants.{Row}
use Rattle.pg_conn.specs.Connections.{seen_by}
use Rattle.pg_play.specs.declared.tally.Added.TheVariants as adds
use Rattle.pg_play.proofs.ThroughLaws.{poll_item}
use Rattle.pg_play.proofs.stepping.tell_rows.Goals as goal

pub returns-in-None-clause-gives : goal.returns-in-None-clause-gives
returns-in-None-clause-gives g c a r i = rw (c.in-None.ensures.none refl) (c.loop-row.invariant.playing a r i)

pub loop-row-preserved : goal.loop-row-preserved
loop-row-preserved g c = record {
  playing = λ a r i. poll_item c.args.limits a (seen_by g.L.Link.seen c.loop-row.conn) (seen_by g.L.Link.seen c.try_row.new.self) r c.loop-row.tally c.add-added.new.self (Row c.in-Some.row) adds.More (rw c.loop-row.invariant.waits c.requires.waits) (rw c.into_values.ensures at c.in-More.ensures.adds) (c.loop-row.invariant.playing a r i) c.in-Some.ensures.shown;
  waits = c.add-added.ensures.waits ∙ c.loop-row.invariant.waits;
  more = omega (arith, c.add-added.ensures.more, c.loop-row.invariant.more);
}

pub returns-in_default-clause-gives : goal.returns-in_default-clause-gives
returns-in_default-clause-gives g c a r i =
    poll_item c.args.limits a (seen_by g.L.Link.seen c.loop-row.conn) (seen_by g.L.Link.seen c.try_row.new.self) r c.loop-row.tally c.add-added.new.self (Row c.in-Some.row) c.add-added.result (rw c.loop-row.invariant.waits c.requires.waits) (rw c.into_values.ensures at c.add-added.ensures.adds) (c.loop-row.invariant.playing a r i) c.in-Some.ensures.shown
