use Rattle.pg_stream.specs.Streams.{framed}
use Rattle.pg_startup.proofs.greeting.Greeting.answer.Goals as goal

pub returns-clause-ok : goal.returns-clause-ok
returns-clause-ok g c =
    let body = c.body-body.ensures in
    let says = rw (← c.self.view_is) at c.in_ok-say.ensures.ok in
    rw (← c.self.view_is) (framed c.args.front.tag c.body-body.result.now, body.0, c.in_ok-reply.reply, c.say.new.self, body.1, c.in_ok-reply.ensures.ok, says, c.take.ensures)
