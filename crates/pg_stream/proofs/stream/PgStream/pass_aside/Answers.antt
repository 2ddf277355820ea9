use Rattle.std.proofs.Common.{subst, Err}
use Rattle.pg_stream.specs.Received.{bytes_in}
use Rattle.pg_stream.specs.Streams.{StreamOf, PassesAside}
use Rattle.pg_stream.proofs.StreamLemmas.{passes_aside, refuses_aside, leaves_heard}
use Rattle.pg_stream.proofs.stream.PgStream.pass_aside.Goals as goal

pub returns-in-Ok-true : goal.returns-in-Ok-true
returns-in-Ok-true g c =
    let told = rw c.in-Ok-true.field-0-test at c.in-Ok-true.ensures in
    let front = rw c.as_slice.ensures at c.body_of-body.ensures.1 in
    rw (← c.self.view_is) (passes_aside _ _ c.take_aside.new.parameters c.take_aside.new.notifications c.args.front c.body_of-body.result.now _ front told c.skip.ensures)

pub returns-in-Ok-false : goal.returns-in-Ok-false
returns-in-Ok-false g c =
    let told = rw c.in-Ok-false.field-0-test at c.in-Ok-false.ensures in
    rw (← c.self.view_is) (leaves_heard _ c.take_aside.new.parameters c.take_aside.new.notifications c.args.front c.body_of-body.result.now told)

pub returns-in-Err : goal.returns-in-Err
returns-in-Err g c =
    let s = c.self.inside in
    let front = rw c.as_slice.ensures at c.body_of-body.ensures.1 in
    let a : StreamOf g.row.L.Denot = record { link = s.link; unsent = s.unsent.bytes; spare = s.unsent.spare; held = bytes_in s.held; room = s.held.room; left = s.left; waits = s.waits; moves = s.moves; taken = s.taken; parameters = s.parameters; notifications = s.notifications } in
    subst (λ (old : StreamOf g.row.L.Denot). PassesAside c.args.front old (record a { parameters = c.take_aside.new.parameters; notifications = c.take_aside.new.notifications }) (Err c.in-Err.e)) c.self.view_is
    (refuses_aside a c.take_aside.new.parameters c.take_aside.new.notifications c.args.front c.body_of-body.result.now _ c.in-Err.e front c.in-Err.ensures)
