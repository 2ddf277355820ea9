use Rattle.std.proofs.Common.{ap, sym, ◌∙◌, arith}
use Rattle.pg_conn.specs.Connections.{ConnOf, seen_by}
use Rattle.pg_conn.proofs.FrontLaws.{asks_own, asks_closing}
use Rattle.pg_conn.proofs.TurnLaws.{readies_none, ahead_waiting, ahead_other}
use Rattle.pg_conn.proofs.connection.PgConnection.ask.Goals as goal

pub returns-in_default : goal.returns-in_default
returns-in_default g c =
    let call = ap (λ (s : ConnOf g.row.L.Denot). s.call) c.self.view_is in
    record {
      ok = readies_none (seen_by g.L.Link.seen c.args.self.now) (ahead_other c.args.self.now.ledger c.args.self.now.call c.requires.asked (λ w e. c.in_default.not-Waiting w (call ∙ e)));
      err = tt;
      spare = omega arith;
      memory = tt;
    }

pub returns-then-self-gt0-clause-ok : goal.returns-then-self-gt0-clause-ok
returns-then-self-gt0-clause-ok g c =
    let call = ap (λ (s : ConnOf g.row.L.Denot). s.call) c.self.view_is in
    let owed = ap (λ (s : ConnOf g.row.L.Denot). s.ledger.owed) c.self.view_is in
    readies_none (seen_by g.L.Link.seen c.args.self.now) (ahead_waiting c.args.self.now.ledger c.args.self.now.call c.in-Waiting.waiting (sym call ∙ c.in-Waiting.is) (omega (arith, owed, c.if-self-gt0.true)))

pub returns-then-is_close-clause-ok : goal.returns-then-is_close-clause-ok
returns-then-is_close-clause-ok g c =
    let call = ap (λ (s : ConnOf g.row.L.Denot). s.call) c.self.view_is in
    let owed = ap (λ (s : ConnOf g.row.L.Denot). s.ledger.owed) c.self.view_is in
    asks_closing g.L.Link.seen c.args.self.now c.queue.new.self c.await_sent.new.self c.in-Waiting.waiting (sym call ∙ c.in-Waiting.is) (omega (arith, owed, c.if-self-gt0.false)) (sym c.if-is_close.ensures) c.queue.ensures.spare c.in_ok-queue.ensures.reserve c.in_ok-queue.ensures.ok c.await_sent.ensures

pub returns-clause-ok : goal.returns-clause-ok
returns-clause-ok g c =
    let call = ap (λ (s : ConnOf g.row.L.Denot). s.call) c.self.view_is in
    let owed = ap (λ (s : ConnOf g.row.L.Denot). s.ledger.owed) c.self.view_is in
    asks_own g.L.Link.seen c.args.self.now c.queue.new.self c.await_reply.new.self c.in-Waiting.waiting (sym call ∙ c.in-Waiting.is) (omega (arith, owed, c.if-self-gt0.false)) c.requires.flushed (sym c.if-is_close.ensures) c.queue.ensures.spare c.in_ok-queue.ensures.reserve c.in_ok-queue.ensures.ok c.await_reply.ensures.now c.await_reply.ensures.groups
