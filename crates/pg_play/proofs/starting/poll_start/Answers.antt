use Rattle.std.proofs.Common.{◌≡◌, ◌∙◌, ℕ, arith, subst}
use Rattle.pg_startup.specs.Establishing.{establish_by}
use Rattle.pg_play.specs.Starts.{IsPending}
use Rattle.pg_play.proofs.StartLaws.{handed, starved}
use Rattle.pg_play.proofs.starting.poll_start.Goals as goal

pub returns-in-Ready : goal.returns-in-Ready
returns-in-Ready g c opening first last k i =
    let now = c.loop.invariant.pends opening first last k i in
    handed g.L.Link.seen opening c.args.polls c.loop.counter first c.poll_once.new.establish.startup c.in-Ready.answer c.hand_over.result (omega (arith, c.loop-test.true, c.loop.auto.counter-end)) (c.in-Ready.ensures.starts opening first now.0 c.loop.counter (c.loop.invariant.capacity ∙ k) now.1)
    c.hand_over.ensures

pub loop-preserved : goal.loop-preserved
loop-preserved g c = record {
  goes = c.in-Pending.ensures.left.0;
  kept = c.in-Pending.ensures.left.1;
  capacity = c.in-Pending.ensures.capacity ∙ c.loop.invariant.capacity;
  pends = λ opening first last k i.
      let now = c.loop.invariant.pends opening first last k i in
      c.in-Pending.ensures.starts opening first now.0 c.loop.counter (c.loop.invariant.capacity ∙ k) now.1;
}

pub returns : goal.returns
returns g c opening first last k i =
    let now = c.loop.invariant.pends opening first last k i in
    let all : c.loop.counter ≡ c.args.polls = omega (arith, c.loop-test.false, c.loop.auto.counter-end) in
    starved g.L.Link.seen opening c.args.polls first now.0 c.loop.establish.startup c.link_of.result (subst (λ (n : ℕ). IsPending opening first now.0 n (establish_by g.L.Link.seen c.loop.establish.startup)) all now.1) c.link_of.ensures
