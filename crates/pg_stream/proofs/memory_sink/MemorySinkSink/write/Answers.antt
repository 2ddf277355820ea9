use Rattle.std.proofs.Common.{refl, inr, sym, ◌∙◌}
use Rattle.pg_stream.proofs.OutsideLaws.{call_tested}
use Rattle.pg_stream.proofs.memory_sink.MemorySinkSink.write.Goals as goal

pub returns-in-Ok-clause-follows : goal.returns-in-Ok-clause-follows
returns-in-Ok-clause-follows c =
    let made = c.saturating_add-self-inside.ensures in
    let tested = call_tested _ _ _ _ _ c.as_slice.ensures made c.contains.ensures.value in
    rw (← c.self.view_is) (record { answers = inr (refl, sym tested ∙ c.if-contains.false); failing = refl; calls = made })
