use Rattle.std.proofs.Common.{refl}
use Rattle.pg_listening.proofs.change.Changing+Listener+B+ChannelChange.poll.Goals as goal

pub returns : goal.returns
returns g c =
    let told = c.poll_asking-answer.ensures in
    record {
      over = c.is_answered-self.ensures;
      same = refl;
      hears = told.hears;
      changes = told.changes;
      begun = told.begun;
      causes = (c.poll_asking-answer.new.left, told.causes);
      closed = told.closed;
    }
