use Rattle.std.proofs.Common.{refl}
use Rattle.std.proofs.lemmas.List.{drop_all}
use Rattle.pg_resolve.proofs.AgainLaws.{asked_by, passed_by, pushed_all, pushed_more}
use Rattle.pg_resolve.proofs.resolver.ask_again.Goals as goal

pub loop-oid-preserved-then-not-is_asked_again : goal.loop-oid-preserved-then-not-is_asked_again
loop-oid-preserved-then-not-is_asked_again c = record {
  rest = passed_by c.args.waiting.now.entries c.args.began.now c.args.began.now c.loop-oid.seen.items c.deref.result.now c.loop-oid.seen.items c.loop-oid.oid-index c.oid.inside.0 c.oid-item.result c.is_asked_again.result refl c.loop-oid-test.true c.oid-item.is c.oid.view_is c.is_asked_again.ensures
      c.deref.ensures.value c.loop-oid.invariant.rest c.if-not-is_asked_again.true refl;
  asked = c.loop-oid.invariant.asked;
}

pub loop-oid-preserved : goal.loop-oid-preserved
loop-oid-preserved c = record {
  rest = asked_by c.args.waiting.now.entries c.args.began.now c.args.began.now c.loop-oid.seen.items c.deref.result.now c.push.new.self.items c.loop-oid.oid-index c.oid.inside.0 c.oid-item.result c.is_asked_again.result refl c.loop-oid-test.true c.oid-item.is c.oid.view_is c.is_asked_again.ensures
      c.deref.ensures.value c.loop-oid.invariant.rest c.if-not-is_asked_again.false c.in_ok-push.ensures.items;
  asked = pushed_more c.args.pushed.now c.loop-oid.pushed c.push-in-loop-oid.new.self c.loop-oid.seen.items c.push.new.self.items c.oid.inside.0 c.loop-oid.invariant.asked c.in_ok-push.ensures.items c.in_ok-push-2.ensures.ok;
}

pub returns : goal.returns
returns c = pushed_all c.args.waiting.now.entries c.args.pushed.now c.loop-oid.pushed c.loop-oid.seen.items _ _ c.loop-oid.invariant.asked c.loop-oid.invariant.rest (drop_all c.loop-oid.oid-index c.args.began.now c.loop-oid-test.false)
