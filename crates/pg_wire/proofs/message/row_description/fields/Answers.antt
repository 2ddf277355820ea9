use Rattle.std.proofs.Common.{◌≡◌, ◌∷◌, [], ◌++◌, sym, map}
use Rattle.std.proofs.lemmas.List.{map_push}
use Rattle.pg_wire.specs.Fields.{described, TellsNone}
use Rattle.pg_wire.specs.Reading.{many_at, field_at}
use Rattle.pg_wire.proofs.Each.{each_end}
use Rattle.pg_wire.proofs.LoopLaws.{goes_on, ends, is_done}
use Rattle.pg_wire.proofs.message.row_description.fields.Goals as goal

pub returns-in_default-clause-value : goal.returns-in_default-clause-value
returns-in_default-clause-value c = ends field_at (map described c.loop.fields.items) c.args.count c.loop.counter c.loop.rest.now (many_at field_at c.args.count c.args.bytes.now) c.loop-test.true (sym c.in_default.ensures) c.loop.invariant.value

pub loop-preserved : goal.loop-preserved
loop-preserved c =
    let kept = c.in_ok-kept.ensures in
    let pushed : map described c.push.new.self.items ≡ map described c.loop.fields.items ++ described c.in_ok-kept.field-0 ∷ [] = rw c.in_ok-push.ensures.items (map_push _ c.loop.fields.items c.in_ok-kept.field-0) in
    record {
      value = rw (pushed, kept.value) (goes_on field_at (map described c.loop.fields.items) c.args.count c.loop.counter c.loop.rest.now _ c.in-Some.after.now (many_at field_at c.args.count c.args.bytes.now) c.loop-test.true (sym c.in-Some.ensures) c.loop.invariant.value);
      none = rw c.in_ok-push.ensures.items (each_end TellsNone c.loop.fields.items c.in_ok-kept.field-0 c.loop.invariant.none kept.none);
    }

pub returns-clause-value : goal.returns-clause-value
returns-clause-value c = is_done field_at (map described c.loop.fields.items) c.args.count c.loop.counter c.loop.rest.now (many_at field_at c.args.count c.args.bytes.now) c.loop-test.false c.loop.invariant.value
