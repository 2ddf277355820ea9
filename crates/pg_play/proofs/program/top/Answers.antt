use Rattle.std.proofs.Common.{string_bytes}
use Rattle.pg_stream.specs.Outside.{Sent}
use Rattle.pg_conn.specs.Dials.{HandsOut}
use Rattle.pg_play.proofs.TopLaws.{ended, starved}
use Rattle.pg_play.proofs.program.top.Goals as goal

pub returns-in-Ok : goal.returns-in-Ok
returns-in-Ok g c =
    let sent : Sent (g.K.Sink.seen c.args.sink.now) (g.K.Sink.seen c.send.new.sink) c.send.result (string_bytes c.in-Ok.text) = rw (← c.as_bytes.ensures.value) c.send.ensures in
    rw (c.ran.ensures.status, c.ran.ensures.played, c.ran.ensures.live, c.status_after-status.ensures, c.status.ensures)
    (ended g.D.L.Link.seen (HandsOut g.D.Dial.gives g.D.Dial.draws c.args.dial.now c.run-ending.new.dial) c.args.words.now (g.S.Source.seen c.args.source.now) (g.S.Source.seen c.run-ending.new.source) (g.K.Sink.seen c.args.sink.now) (g.K.Sink.seen c.send.new.sink) (g.D.Dial.seen c.args.dial.now) (g.D.Dial.seen c.run-ending.new.dial) c.send.result c.run-ending.result (string_bytes c.in-Ok.text) c.run-ending.ensures c.in-Ok.ensures sent)

pub returns-in-Err : goal.returns-in-Err
returns-in-Err g c =
    rw (c.ran-in-Err.ensures.status, c.ran-in-Err.ensures.played, c.ran-in-Err.ensures.live, c.status_after-status-in-Err.ensures)
    (starved g.D.L.Link.seen (HandsOut g.D.Dial.gives g.D.Dial.draws c.args.dial.now c.run-ending.new.dial) c.args.words.now (g.S.Source.seen c.args.source.now) (g.S.Source.seen c.run-ending.new.source) (g.K.Sink.seen c.args.sink.now) (g.K.Sink.seen c.send-in-Err.new.sink) (g.D.Dial.seen c.args.dial.now) (g.D.Dial.seen c.run-ending.new.dial) c.send-in-Err.result c.run-ending.result c.run-ending.ensures c.send-in-Err.ensures)
