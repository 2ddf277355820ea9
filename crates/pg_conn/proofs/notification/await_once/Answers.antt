use Rattle.std.proofs.Common.{ap}
use Rattle.pg_stream.specs.Streams.{stream_by}
use Rattle.pg_conn.proofs.NewsLaws.{ahead_fails, ahead_waits, aside_news, aside_none, error_passed, message_refused}
use Rattle.pg_conn.proofs.notification.await_once.Goals as goal

pub returns-then-front-eq69 : goal.returns-then-front-eq69
returns-then-front-eq69 g c =
    let ahead = rw (c.in-Some-Ready-Ok.field-0-is, c.in-Some-Ready-Ok.field-0-0-is) at c.in-Some-Ready-Ok.ensures in
    error_passed g.L.Link.seen c.args.stream.now c.ahead_once.new.self c.pass.new.self c.in-Some-Ready-Ok.front c.requires.keeping c.requires.none ahead c.pass.ensures

pub returns-in-Some : goal.returns-in-Some
returns-in-Some g c =
    let seen = stream_by g.L.Link.seen in
    aside_news (seen c.args.stream.now) (seen c.ahead_once.new.self) (seen c.next_buffered.new.self) c.in-Some.notification c.requires.keeping c.in-None.ensures (ap seen c.next_buffered.ensures.same) c.in-Some.ensures.takes

pub returns-in-None-next_buffered : goal.returns-in-None-next_buffered
returns-in-None-next_buffered g c =
    let seen = stream_by g.L.Link.seen in
    aside_none (seen c.args.stream.now) (seen c.ahead_once.new.self) (seen c.next_buffered.new.self) c.requires.keeping c.in-None.ensures (ap seen c.next_buffered.ensures.same) c.in-None-next_buffered.ensures.takes

pub returns-in-Some-Ready-Err : goal.returns-in-Some-Ready-Err
returns-in-Some-Ready-Err g c =
    let seen = stream_by g.L.Link.seen in
    let ahead = rw (c.in-Some-Ready-Err.field-0-is, c.in-Some-Ready-Err.field-0-0-is) at c.in-Some-Ready-Err.ensures in
    ahead_fails (seen c.args.stream.now) (seen c.ahead_once.new.self) c.in-Some-Ready-Err.e c.requires.keeping ahead

pub returns-else-front-eq69 : goal.returns-else-front-eq69
returns-else-front-eq69 g c =
    let seen = stream_by g.L.Link.seen in
    let ahead = rw (c.in-Some-Ready-Ok.field-0-is, c.in-Some-Ready-Ok.field-0-0-is) at c.in-Some-Ready-Ok.ensures in
    rw c.unlawful.ensures (message_refused (seen c.args.stream.now) (seen c.ahead_once.new.self) c.in-Some-Ready-Ok.front c.requires.keeping ahead c.if-front-eq69.false)

pub returns-in-Some-Pending : goal.returns-in-Some-Pending
returns-in-Some-Pending g c =
    let seen = stream_by g.L.Link.seen in
    let ahead = rw c.in-Some-Pending.field-0-is at c.in-Some-Pending.ensures in
    ahead_waits (seen c.args.stream.now) (seen c.ahead_once.new.self) c.requires.keeping c.requires.none ahead
