use Rattle.std.proofs.Common.{refl}
use Rattle.pg_wire.specs.Backend.{CopyOutResponse}
use Rattle.pg_call.proofs.PlaceLaws.{begins_copy_at, plainly}
use Rattle.pg_call.proofs.judging.begin_copy.Goals as goal

pub returns : goal.returns
returns c =
    let read = c.in_ok-decode_copy_out_response.field-0 in
    plainly c.args.part _ 72 c.args.body.now (CopyOutResponse read.format read.format_codes) c.go_on.result c.go_on.ensures c.in_ok-decode_copy_out_response.ensures (begins_copy_at c.args.part read.format read.format_codes c.requires) refl
