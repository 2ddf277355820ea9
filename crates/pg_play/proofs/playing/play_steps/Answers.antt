use Rattle.std.proofs.Common.{◌≡◌, ◌≤◌, ◌+◌, ℕ, [], ◌∷◌, ◌++◌, length, vec_capacity, take, ap, sym, ◌∙◌, length-append, rules, arith}
use Rattle.std.proofs.lemmas.List.{take_more, take_all}
use Rattle.pg_conn.specs.Connections.{seen_by}
use Rattle.pg_script.specs.declared.step.Step.{Step}
use Rattle.pg_play.proofs.PlayLaws.{plays_no_step, plays_step_on, plays_begun}
use Rattle.pg_play.proofs.playing.play_steps.Goals as goal

pub loop-step-preserved : goal.loop-step-preserved
loop-step-preserved g c =
    let step : Step = c.step-item.result in
    let more : take (c.loop-step.step-index + 1) c.args.steps.now ≡ take c.loop-step.step-index c.args.steps.now ++ step ∷ [] =
    take_more c.args.steps.now c.loop-step.step-index step c.loop-step-test.true ∙ ap (λ (s : Step). take c.loop-step.step-index c.args.steps.now ++ s ∷ []) (sym c.step-item.is) in
    let items : c.push.new.self.items ≡ c.loop-step.outcomes.items ++ c.play_chain-outcome.result ∷ [] = rw c.unwrap.ensures at c.push.ensures.items in
    let count : length c.push.new.self.items ≡ c.loop-step.step-index + 1 = rw items (length-append c.loop-step.outcomes.items (c.play_chain-outcome.result ∷ []) ∙ ap (λ (n : ℕ). n + 1) c.loop-step.invariant.count) in
    let room : length c.args.steps.now ≤ vec_capacity c.push.new.self = search rules in
    record {
      count = count;
      room = room;
      held = c.play_chain-outcome.ensures.held;
      plays = rw (more, items) (plays_step_on (seen_by g.L.Link.seen c.keep_room.new.conn) (seen_by g.L.Link.seen c.loop-step.conn) (seen_by g.L.Link.seen c.play_chain-outcome.new.conn) (take c.loop-step.step-index c.args.steps.now) c.loop-step.outcomes.items c.loop-step.guards.items c.play_chain-outcome.new.guards.items step c.play_chain-outcome.result c.loop-step.invariant.plays c.play_chain-outcome.ensures.plays);
    }

pub returns-clause-plays : goal.returns-clause-plays
returns-clause-plays g c opening polls link begins =
    rw c.from_vec.ensures
    (plays_begun opening polls link (g.L.Link.seen c.close_hard.result) (seen_by g.L.Link.seen c.args.conn) (seen_by g.L.Link.seen c.keep_room.new.conn) (seen_by g.L.Link.seen c.loop-step.conn) (record { sent = c.started-sent.result.0; read = c.started-sent.result.1 }) c.args.steps.now c.loop-step.outcomes.items c.loop-step.guards.items begins c.keep_room.ensures
    (rw (take_all c.loop-step.step-index c.args.steps.now c.loop-step-test.false) at c.loop-step.invariant.plays)
    (ap (λ (p : ℕ × ℕ). p.0) c.started-sent.ensures) (ap (λ (p : ℕ × ℕ). p.1) c.started-sent.ensures) (ap g.L.Link.seen c.close_hard.ensures))

pub loop-step-init : goal.loop-step-init
loop-step-init g c = record {
  count = ap length c.requires.none;
  room = c.requires.room;
  held = rw c.new-guards.ensures.items (omega arith);
  plays = rw (c.requires.none, c.new-guards.ensures.items) (plays_no_step (seen_by g.L.Link.seen c.keep_room.new.conn));
}
