use Rattle.std.proofs.Common.{refl}
use Rattle.pg_wire.specs.Backend.{BackendCopyDone}
use Rattle.pg_call.proofs.PlaceLaws.{ends_copy_at, plainly}
use Rattle.pg_call.proofs.judging.end_copy.Goals as goal

pub returns : goal.returns
returns c = plainly c.args.part _ 99 c.args.body.now BackendCopyDone c.go_on.result c.go_on.ensures c.in_ok-decode_copy_done.ensures.exact (ends_copy_at c.args.part c.requires) refl
