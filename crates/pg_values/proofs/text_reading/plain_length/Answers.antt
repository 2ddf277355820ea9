use Rattle.std.proofs.Common.{◌≡◌, length, sym, ◌∙◌, arith}
use Rattle.pg_values.proofs.TextLoops.{plain_stop, plain_end}
use Rattle.pg_values.proofs.text_reading.plain_length.Goals as goal

pub returns-then-not-is_plain-clause-value : goal.returns-then-not-is_plain-clause-value
returns-then-not-is_plain-clause-value c = plain_stop c.args.style c.args.bytes.now c.loop-place.place c.loop-place-test.true c.loop-place.invariant (sym c.is_plain.ensures ∙ c.if-not-is_plain.true)

pub returns-clause-value : goal.returns-clause-value
returns-clause-value c =
    let all : c.loop-place.place ≡ length c.args.bytes.now = omega (arith, c.loop-place-test.false, c.loop-place.auto.place-end) in
    plain_end c.args.style c.args.bytes.now _ (omega arith) (rw all at c.loop-place.invariant)
