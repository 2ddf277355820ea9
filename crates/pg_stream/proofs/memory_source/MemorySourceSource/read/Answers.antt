use Rattle.std.proofs.Common.{◌≡◌, ◌≤◌, ◌<◌, ◌+◌, ◌++◌, length, take, drop, min, max, refl, sym, ◌∙◌, arith}
use Rattle.std.proofs.lemmas.Grind.{common_steps}
use Rattle.pg_stream.proofs.OutsideLaws.{source_gives, call_tested, read_moved}
use Rattle.pg_stream.proofs.memory_source.MemorySourceSource.read.Goals as goal

pub returns : goal.returns
returns c =
    let some : 0 < c.copy_front-count.result = grind (arith, common_steps) in
    let within : c.copy_front-count.result ≤ length c.copy_front-count.new.into = omega arith in
    let below : c.copy_front-count.result ≤ c.min.result = grind (arith, common_steps) in
    let gives : drop c.self.inside.given c.self.inside.bytes ≡ take c.copy_front-count.result c.copy_front-count.new.into ++ drop (c.self.inside.given + c.copy_front-count.result) c.self.inside.bytes
    = source_gives c.self.inside.bytes c.as_bytes.result.now c.copy_front-count.new.into c.self.inside.given c.min.result c.copy_front-count.result c.as_bytes.ensures below c.copy_front-count.ensures.copied in
    let ahead : 0 < length (drop c.self.inside.given c.self.inside.bytes) = grind (arith, common_steps) in
    let size : c.copy_front-count.result ≡ min (min (length (drop c.self.inside.given c.self.inside.bytes)) (max c.self.inside.most 1)) (length c.args.into.now) = grind (arith, common_steps) in
    let made = c.saturating_add-self-inside.ensures in
    let tested = call_tested _ _ _ _ _ c.as_slice.ensures made c.contains.ensures.value in
    rw (← c.self.view_is) (record {
      source = (some, within, gives, refl);
      follows = record { answers = read_moved (record { left = drop c.self.inside.given c.self.inside.bytes; most = c.self.inside.most; failing = c.self.inside.failing; calls = c.self.inside.calls; faults = c.self.inside.faults }) (length c.args.into.now) c.copy_front-count.result (sym tested ∙ c.if-contains.false) ahead size; most = refl; failing = refl; calls = made };
    })
