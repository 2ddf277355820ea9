use Rattle.std.proofs.Common.{ap, ◌∙◌}
use Rattle.pg_conn.specs.Connections.{ConnOf, seen_by}
use Rattle.pg_conn.proofs.FrontLaws.{not_asked}
use Rattle.pg_conn.proofs.TurnLaws.{prepares, prepares_none}
use Rattle.pg_conn.proofs.connection.PgConnection.write_frames.Goals as goal

pub returns-in_default : goal.returns-in_default
returns-in_default g c =
    let call = ap (λ (s : ConnOf g.row.L.Denot). s.call) c.self.view_is in
    record { ok = prepares_none (seen_by g.L.Link.seen c.args.self.now) (not_asked c.args.self.now.call (λ request e. c.in_default.not-Asked request (call ∙ e))); err = tt }

pub returns-clause-ok : goal.returns-clause-ok
returns-clause-ok g c =
    rw (c.wait.ensures, ← c.self.view_is) (prepares _ c.in-Asked.request c.in_ok-frames.frames c.in-Asked.is c.in_ok-frames.ensures.ok c.in_ok-frames.ensures.said)
