use Rattle.std.proofs.Common.{◌≡◌, ◌<◌, ◌-◌, take, ◌∙◌, sym, ap, [], drop, length, arith, Some}
use Rattle.std.proofs.lemmas.List.{drop_more, drop_all, length-drop}
use Rattle.std.proofs.Math.Seq.{take-length}
use Rattle.pg_stream.specs.Versions.{front_digits}
use Rattle.pg_stream.proofs.VersionLaws.{reads_more, reads_too_much, reads_number, no_front, fits_in, too_big}
use Rattle.pg_stream.proofs.version.number.Goals as goal
use Rattle.pg_stream.proofs.version.number.Goals.{then-loop-count-test+else-is_ascii_digit, else-loop-count-test}

pub returns-in_default : goal.returns-in_default
returns-in_default c =
    let next = drop_more c.args.text.now c.loop-count.count 0 c.loop-count-test.true in
    sym (reads_too_much _ _ _ _ c.loop-count.invariant next (sym c.is_ascii_digit.ensures.value ∙ c.if-is_ascii_digit.true) (too_big _ (sym c.with_digit.ensures ∙ c.in_default.is)))

pub loop-count-preserved : goal.loop-count-preserved
loop-count-preserved c =
    let next = drop_more c.args.text.now c.loop-count.count 0 c.loop-count-test.true in
    let digit = fits_in _ _ (sym c.with_digit.ensures ∙ c.in-Some.is) in
    rw digit.0 (reads_more _ _ _ _ c.loop-count.invariant c.loop-count-test.true next (sym c.is_ascii_digit.ensures.value ∙ c.if-is_ascii_digit.true) digit.1)

pub returns : goal.returns
returns c =
    let none : front_digits (drop c.loop-count.count c.args.text.now) ≡ [] = elim c.loop-count-test.branch [
      | then-loop-count-test+else-is_ascii_digit w ↦ no_front c.args.text.now c.loop-count.count _ (drop_more c.args.text.now c.loop-count.count 0 w.loop-count-test.true) (sym w.is_ascii_digit.ensures.value ∙ w.if-is_ascii_digit.false)
      | else-loop-count-test w ↦ ap front_digits (drop_all c.loop-count.count c.args.text.now w.loop-count-test.false)
    ] in
    let some : 0 < c.loop-count.count = grind (arith, c.if-count-eq0.false) in
    let rest : take (length c.args.text.now - c.loop-count.count) (drop c.loop-count.count c.args.text.now) ≡ drop c.loop-count.count c.args.text.now
    = ap (λ n. take n (drop c.loop-count.count c.args.text.now)) (sym (length-drop c.loop-count.count c.args.text.now)) ∙ take-length (drop c.loop-count.count c.args.text.now) in
    ap (λ r. Some (c.loop-count.value, r)) rest ∙ sym (reads_number c.args.text.now c.loop-count.count c.loop-count.value c.loop-count.invariant none some)
