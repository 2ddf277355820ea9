use Rattle.pg_stream.proofs.StreamLemmas.{aside_once, ahead_once}
use Rattle.pg_stream.proofs.stream.PgStream.ahead_once.Goals as goal

pub returns-in-Ok-true : goal.returns-in-Ok-true
returns-in-Ok-true g c =
    let front = rw c.in-Ready-Ok.field-0-is at c.in-Ready-Ok.ensures in
    let passed = rw c.in-Ok-true.field-0-test at c.in-Ok-true.ensures in
    aside_once g.L.Link.seen c.args.self.now c.poll_front.new.self c.pass_aside.new.self c.in-Ready-Ok.front front passed

pub returns-in-Ok-false : goal.returns-in-Ok-false
returns-in-Ok-false g c =
    let front = rw c.in-Ready-Ok.field-0-is at c.in-Ready-Ok.ensures in
    let passed = rw c.in-Ok-false.field-0-test at c.in-Ok-false.ensures in
    ahead_once g.L.Link.seen c.args.self.now c.poll_front.new.self c.pass_aside.new.self c.in-Ready-Ok.front front passed
