use Rattle.pg_wire.proofs.RunLaws.{run_split}
use Rattle.pg_wire.proofs.laws.run_splits.Goals as goal

pub returns : goal.returns
returns c old new first second rss run =
    let t = run_split old new first second rss run in
    (t.mid, t.front, t.further, t.parts, t.begins, t.goes_on)
