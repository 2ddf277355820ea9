use Rattle.std.proofs.Common.{◌≡◌, ◌+◌, ◌++◌, ℕ, List, length, refl, sym, ◌∙◌, arith, ap}
use Rattle.pg_stream.specs.Received.{given_of}
use Rattle.pg_stream.proofs.ReceivedLaws.{size_fits, filled}
use Rattle.pg_stream.proofs.received.Received.fill.Goals as goal

pub overflow_add-len : goal.overflow_add-len
overflow_add-len g c =
    let asked : length c.read-answer.new.into ≡ 8192 = omega (arith, c.read-answer.auto.into, ap length c.as_mut_slice.ensures.value, c.advance_mut.ensures.len, c.len-len.ensures.value) in
    omega (arith, asked, size_fits _ _ c.read-answer.result c.read-answer.new.into c.read-answer.ensures, c.count_of.ensures, c.len-len.ensures.bound)

pub returns-clause-reads : goal.returns-clause-reads
returns-clause-reads g c =
    let asked : length c.read-answer.new.into ≡ 8192 = omega (arith, c.read-answer.auto.into, ap length c.as_mut_slice.ensures.value, c.advance_mut.ensures.len, c.len-len.ensures.value) in
    let old = c.self.inside.own.items in
    let clear = rw (← c.self.view_is) at c.requires.open in
    let long : length c.advance_mut.new.self.items ≡ c.len-len.result + 8192 = omega (arith, c.advance_mut.ensures.len, c.len-len.ensures.value) in
    let fits = size_fits _ _ c.read-answer.result c.read-answer.new.into c.read-answer.ensures in
    let items = c.truncate.ensures.items ∙ filled old c.advance_mut.new.self.items c.as_mut_slice.result.now c.read-answer.new.into _ _ c.len-len.result c.count_of.result c.read-answer.result c.len-len.ensures.value c.advance_mut.ensures.front long c.as_mut_slice.ensures.value asked fits c.count_of.ensures in (
      c.read-answer.new.into,
      c.read-answer.ensures,
      asked,
      rw (← c.self.view_is) (ap (λ (s : List ℕ). s ++ c.truncate.new.self.items) clear ∙ items ∙ ap (λ (s : List ℕ). (s ++ old) ++ given_of c.read-answer.result c.read-answer.new.into) (sym clear)),
    )
