use Rattle.std.proofs.Common.{refl}
use Rattle.pg_wire.specs.Backend.{ReadyForQuery}
use Rattle.pg_call.proofs.PlaceLaws.{closes_at}
use Rattle.pg_call.proofs.judging.close.Goals as goal

pub returns : goal.returns
returns c =
    let status = c.in_ok-status.status in
    (ReadyForQuery status, c.in_ok-status.ensures.exact, (closes_at c.args.part c.requires, refl))
