use Rattle.pg_stream.specs.Events.{IsGivenAt}
use Rattle.std.specs.Prelude.{true}
use Rattle.pg_stream.proofs.EventLaws.{skips}
use Rattle.pg_stream.proofs.read_list.ReadList.skip_given.Goals as goal

pub loop-self-preserved : goal.loop-self-preserved
loop-self-preserved c =
    let given : IsGivenAt c.loop-self.self true = rw c.loop-self-test.true at c.is_given.ensures.given in
    skips c.args.self.now c.loop-self.self c.pass.new.self c.loop-self.invariant given c.pass.ensures
