use Rattle.std.proofs.Common.{◌≡◌, ℕ, ◌<◌, ◌+◌, Some, length, take, drop, map, refl, subst, arith}
use Rattle.std.proofs.lemmas.Grind.{take-set_at}
use Rattle.std.proofs.lemmas.List.{length-set}
use Rattle.pg_wire.specs.Reading.{many_at, value_at}
use Rattle.pg_wire.specs.Rows.{value_by}
use Rattle.pg_wire.proofs.PlaceLaws.{finding_goes, finding_fails, finding_done}
use Rattle.pg_wire.proofs.message.data_row.fill.Goals as goal

pub returns-in_default-clause-values : goal.returns-in_default-clause-values
returns-in_default-clause-values c = finding_fails c.args.body.now c.args.count c.loop-index.index _ c.loop-index.place c.loop-index.invariant.found c.loop-index-test.true c.in_default.ensures.rest

pub loop-index-preserved : goal.loop-index-preserved
loop-index-preserved c =
    let room : c.loop-index.index < length c.loop-index.places = omega (arith, c.loop-index-test.true, c.requires.few, c.loop-index.invariant.long) in
    record {
      found = rw (take-set_at c.loop-index.places c.loop-index.index (c.loop-index.index + 1) c.loop-index.place refl room) (finding_goes c.args.body.now c.args.count c.loop-index.index _ c.loop-index.place c.in-Some.after c.loop-index.invariant.found c.loop-index-test.true c.in-Some.ensures.within c.in-Some.ensures.rest);
      long = omega (arith, length-set c.loop-index.places c.loop-index.index c.loop-index.place, c.loop-index.invariant.long);
    }

pub returns-clause-values : goal.returns-clause-values
returns-clause-values c =
    let body = c.args.body.now in
    let end : c.loop-index.index ≡ c.args.count = omega (arith, c.loop-index-test.false, c.loop-index.auto.index-end) in
    subst (λ (n : ℕ). Some (map (value_by body) (take n c.loop-index.places), drop c.loop-index.place body) ≡ many_at value_at c.args.count (drop 2 body)) end (finding_done body c.args.count c.loop-index.index _ c.loop-index.place c.loop-index.invariant.found c.loop-index-test.false)
