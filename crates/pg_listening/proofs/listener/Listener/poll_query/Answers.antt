use Rattle.pg_listening.proofs.listener.Listener.poll_query.Goals as goal

pub returns : goal.returns
returns g c =
    let told = c.poll_query-answer.ensures in
    let asked = c.take-asked.ensures.value in
    record {
      hears = rw (← c.self.view_is) told.hears;
      channels = rw (← c.self.view_is) told.channels;
      source = rw (← c.self.view_is) told.source;
      left = told.left;
      queries = rw (← c.self.view_is) (rw asked at told.queries);
      closed = rw (← c.self.view_is) told.closed;
    }
