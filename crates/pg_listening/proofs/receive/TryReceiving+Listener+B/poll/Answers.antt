use Rattle.std.proofs.Common.{refl}
use Rattle.pg_listening.proofs.receive.TryReceiving+Listener+B.poll.Goals as goal

pub returns : goal.returns
returns g c =
    let told = c.poll_try_recv-answer.ensures in
    record {
      over = c.is_answered-self.ensures;
      same = refl;
      hears = told.hears;
      channels = told.channels;
      loss = told.loss;
      oldest = told.oldest;
      again = told.again;
      causes = (c.poll_try_recv-answer.new.left, told.causes);
      closed = told.closed;
      asks = told.asks;
    }
