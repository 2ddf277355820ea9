use Rattle.std.proofs.Common.{sym}
use Rattle.pg_script.proofs.AskedLaws.{texts_next}
use Rattle.pg_script.proofs.asking.more_texts.Goals as goal

pub loop-bytes-preserved : goal.loop-bytes-preserved
loop-bytes-preserved c =
    rw c.in_ok-push.ensures.items (texts_next c.loop-bytes.texts.items c.loop-bytes.rest.now (c.in-Some.bytes.now, c.in-Some.behind.now) c.in_ok-text.text _ (sym c.in-Some.ensures) c.in_ok-text.ensures c.loop-bytes.invariant)
