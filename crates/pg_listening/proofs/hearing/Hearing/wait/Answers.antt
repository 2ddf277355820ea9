use Rattle.std.proofs.Common.{[], refl}
use Rattle.std.proofs.Math.Nat.{le_refl}
use Rattle.pg_listening.proofs.BufferLaws.{hears_none}
use Rattle.pg_listening.proofs.FailingLaws.{caused_news, memory_fails}
use Rattle.pg_listening.proofs.HearingLaws.{hears_without}
use Rattle.pg_listening.proofs.NamingLaws.{stays_some}
use Rattle.pg_listening.proofs.hearing.Hearing.wait.Goals as goal

pub returns : goal.returns
returns g c =
    let told = c.poll_within.ensures in
    let lost = c.reserve.ensures.items in
    record {
      hears = rw (← c.self.view_is) (hears_without g.B.L.Link.seen _ _ _ lost refl refl refl told.hears);
      channels = rw (← c.self.view_is) told.channels;
      left = told.left;
      fails = rw (← c.self.view_is) told.fails;
      held = stays_some g.B.Held.PgExecutor.conn g.B.Held.PgExecutor.with_conn c.self.inside.listening.conn c.poll_within.new.self.conn told.holder (rw (← c.self.view_is) at c.requires.held);
      lost = rw (← c.self.view_is) lost;
      loss = rw (← c.self.view_is) refl;
      startup = rw (← c.self.view_is) refl;
      causes = rw (← c.self.view_is) (caused_news g.B.L.Link.seen g.B.Held.PgExecutor.conn g.B.Held.PgExecutor.with_conn g.B.ConnectionSource.filling _ _ _ _ c.poll_within.result told.oldest told.polls);
    }

pub returns-in-Err : goal.returns-in-Err
returns-in-Err g c =
    let lost = c.reserve.ensures.items in
    record {
      hears = rw (← c.self.view_is) (hears_without g.B.L.Link.seen _ _ [] lost refl refl refl (hears_none _));
      channels = rw (← c.self.view_is) refl;
      left = le_refl _;
      fails = tt;
      held = rw (← c.self.view_is) at c.requires.held;
      lost = rw (← c.self.view_is) lost;
      loss = rw (← c.self.view_is) refl;
      startup = rw (← c.self.view_is) refl;
      causes = rw (← c.self.view_is) (memory_fails g.B.L.Link.seen g.B.Held.PgExecutor.conn g.B.Held.PgExecutor.with_conn g.B.ConnectionSource.filling _ _ _ _ _ refl);
    }
