use Rattle.std.proofs.Common.{refl, ap, subst, ◌∙◌}
use Rattle.pg_conn.specs.Connections.{ConnOf, begun_with, seen_by}
use Rattle.pg_conn.specs.Turns.{PollsThrough}
use Rattle.pg_conn.proofs.FirstLaws.{shown_through}
use Rattle.pg_conn.proofs.connection.PgConnection.poll_once.Goals as goal

pub returns-in-Some : goal.returns-in-Some
returns-in-Some g c = shown_through (begun_with c.args.left (seen_by g.L.Link.seen c.args.self.now)) (seen_by g.L.Link.seen c.show_at_once.new.self) c.in-Some.row c.requires.broken c.in-Some.ensures.shown

pub returns-in-None : goal.returns-in-None
returns-in-None g c =
    subst (λ (x : ConnOf _). PollsThrough (seen_by g.L.Link.seen x) (seen_by g.L.Link.seen c.poll_through.new.self) c.poll_through.result) (c.allow.ensures ∙ ap (λ (x : ConnOf _). begun_with c.args.left x) (c.in-None.ensures.none refl)) c.poll_through.ensures

pub poll_through-requires : goal.poll_through-requires
poll_through-requires g c = ap (λ (x : ConnOf _). x.broken) (c.allow.ensures ∙ ap (λ (x : ConnOf _). begun_with c.args.left x) (c.in-None.ensures.none refl)) ∙ c.requires.broken
