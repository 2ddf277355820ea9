use Rattle.std.proofs.Common.{◌≡◌, inr, rules, subst, sym}
use Rattle.pg_conn.specs.Connections.{ConnSeen, seen_by}
use Rattle.pg_conn.specs.Turns.{first_exchange}
use Rattle.pg_script.specs.declared.step.Parting.{Parting}
use Rattle.pg_script.specs.declared.step.Parting.TheVariants as partings
use Rattle.pg_play.specs.Calls.{PlaysCall, first_conn}
use Rattle.pg_play.specs.Shown.{asked_of, parting_of}
use Rattle.pg_play.proofs.ShownLaws.{plain_parts}
use Rattle.pg_play.proofs.stepping.play_polled.Goals as goal

pub returns-in-Ok : goal.returns-in-Ok
returns-in-Ok g c =
    let a : ConnSeen = seen_by g.L.Link.seen c.args.conn.now in
    let b : ConnSeen = seen_by g.L.Link.seen c.play_call.new.conn in
    let call = c.args.step.now.call in
    let d = c.args.conn.now.rule.depth in
    let parts : parting_of call ≡ partings.None = plain_parts d call (rw (c.in-Ok.ensures.ok, c.requires.depth) at c.in-Ok.ensures.plain) in
    inr (
      search rules,
      search rules,
      inr (
        search rules,
        inr
            (subst (λ (q : Parting). PlaysCall (record { polls = c.args.step.now.polls; most = c.args.step.now.most; parting = q }) (first_conn (asked_of d call) a) b (first_exchange (asked_of d call) a) c.play_call.result) (sym parts) (rw (c.in-Ok.ensures.ok, c.requires.depth) at c.play_call.ensures)),
      ),
    )
