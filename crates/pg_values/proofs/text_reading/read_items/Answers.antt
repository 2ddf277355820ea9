use Rattle.std.proofs.Common.{◌+◌, length, sym}
use Rattle.pg_values.proofs.TextLaws.{items_take, no_items}
use Rattle.pg_values.proofs.text_reading.read_items.Goals as goal

pub returns-in-Some-clause-value : goal.returns-in-Some-clause-value
returns-in-Some-clause-value c =
    let given = rw c.in-Some.is at c.in_ok-items.ensures in
    items_take c.args.style (length c.args.bytes.now + 1) c.args.bytes.now c.in-Some.items.items (sym given)

pub returns-in-None-clause-cause : goal.returns-in-None-clause-cause
returns-in-None-clause-cause c =
    let given = rw c.in-None.is at c.in_ok-items.ensures in
    λ xs r. no_items c.args.style c.args.bytes.now xs given r
