use Rattle.std.proofs.Common.{refl}
use Rattle.pg_wire.specs.Backend.{BackendCopyData}
use Rattle.pg_call.proofs.PlaceLaws.{copies_at}
use Rattle.pg_call.proofs.judging.copy.Goals as goal

pub returns : goal.returns
returns c = (BackendCopyData c.in_ok-piece.piece, c.in_ok-piece.ensures, (copies_at c.args.part _ c.requires, refl))
