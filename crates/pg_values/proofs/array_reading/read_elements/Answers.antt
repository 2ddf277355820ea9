use Rattle.std.proofs.Common.{◌≡◌, ◌-◌, ◌++◌, ◌∷◌, [], sym, ◌∙◌, arith, eqb-true}
use Rattle.std.proofs.lemmas.Result.{err_from_is_err_and}
use Rattle.pg_wire.specs.Reading.{many_at, value_at}
use Rattle.pg_wire.proofs.LoopLaws.{goes_on, begins}
use Rattle.pg_values.specs.declared.format.PgValueFormat.TheVariants as formats
use Rattle.pg_values.proofs.ReadLaws.{reads_push, no_value_there, no_element_there, nothing_left, all_read, not_empty}
use Rattle.pg_values.proofs.array_reading.read_elements.Goals as goal

pub loop-init : goal.loop-init
loop-init g c =
    let whole : c.args.count - 0 ≡ c.args.count = omega arith in
    ([], rw whole (begins (many_at value_at c.args.count c.args.bytes.now)), rw c.new-items.ensures.items tt)

pub returns-in_default-clause-cause : goal.returns-in_default-clause-cause
returns-in_default-clause-cause g c = λ xs. no_value_there (g.T.Decode.reads c.args.type_info.now formats.Binary) c.loop.invariant.0 c.args.count c.loop.counter c.loop.rest.now c.args.bytes.now xs.items c.loop-test.true (sym c.in_default.ensures) c.loop.invariant.1

pub returns-in_err-decode-clause-cause : goal.returns-in_err-decode-clause-cause
returns-in_err-decode-clause-cause g c =
    let p = err_from_is_err_and c.from_residual.result c.from_residual.ensures.1 in
    rw (p.1, p.2) (no_element_there (g.T.Decode.reads c.args.type_info.now formats.Binary) c.loop.invariant.0 c.args.count c.loop.counter c.loop.rest.now c.args.bytes.now _ c.in-Some.after.now _ c.loop-test.true (sym c.in-Some.ensures) c.loop.invariant.1 c.in_err-decode.ensures.cause)

pub loop-preserved : goal.loop-preserved
loop-preserved g c = (
  c.loop.invariant.0 ++ _ ∷ [],
  goes_on value_at c.loop.invariant.0 c.args.count c.loop.counter c.loop.rest.now _ c.in-Some.after.now (many_at value_at c.args.count c.args.bytes.now) c.loop-test.true (sym c.in-Some.ensures) c.loop.invariant.1,
  rw c.in_ok-push.ensures.items (reads_push (g.T.Decode.reads c.args.type_info.now formats.Binary) c.loop.invariant.0 c.loop.items.items _ c.in_ok-decode.field-0 c.loop.invariant.2 c.in_ok-decode.ensures.value),
)

pub returns-then-is_empty-clause-value : goal.returns-then-is_empty-clause-value
returns-then-is_empty-clause-value g c =
    all_read (g.T.Decode.reads c.args.type_info.now formats.Binary) c.loop.invariant.0 c.args.count c.loop.counter c.loop.rest.now c.args.bytes.now c.loop.items.items c.loop-test.false
    (eqb-true _ _ (sym c.is_empty.ensures ∙ c.if-is_empty.true)) c.loop.invariant.1 c.loop.invariant.2

pub returns-else-is_empty-clause-cause : goal.returns-else-is_empty-clause-cause
returns-else-is_empty-clause-cause g c =
    λ xs. nothing_left (g.T.Decode.reads c.args.type_info.now formats.Binary) c.loop.invariant.0 c.args.count c.loop.counter c.loop.rest.now c.args.bytes.now xs.items c.loop-test.false
    (not_empty c.is_empty.result _ c.is_empty.ensures c.if-is_empty.false) c.loop.invariant.1
