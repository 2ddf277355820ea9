use Rattle.std.proofs.Common.{ap, refl, subst}
use Rattle.pg_conn.specs.Connections.{ConnOf, seen_by}
use Rattle.pg_conn.specs.News.{Drains}
use Rattle.pg_conn.proofs.NewsLaws.{gives_oldest, polls_behind, untaken}
use Rattle.pg_conn.proofs.connection.PgConnection.poll_notification_within.Goals as goal

pub returns-in-Some : goal.returns-in-Some
returns-in-Some g c =
    let seen = seen_by g.L.Link.seen in
    gives_oldest c.args.left.now c.args.left.now (seen c.args.self.now) (seen c.next_buffered.new.self) c.in-Some.notification c.requires.keeping refl (ap seen c.next_buffered.ensures.same) c.in-Some.ensures.takes

pub returns : goal.returns
returns g c =
    let seen = seen_by g.L.Link.seen in
    let none = untaken c.args.self.now c.next_buffered.new.self c.next_buffered.ensures.same c.in_default.ensures.takes in
    let drains = subst (λ (s : ConnOf _). Drains c.args.left.now c.drain-drained.new.left (seen s) (seen c.drain-drained.new.self) c.drain-drained.result) none.0 c.drain-drained.ensures in
    polls_behind c.args.left.now c.go_on_behind.new.left (seen c.args.self.now) (seen c.go_on_behind.new.self) c.go_on_behind.result none.1 (c.go_on_behind.ensures c.args.left.now (seen c.args.self.now) drains)
