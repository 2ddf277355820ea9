use Rattle.std.proofs.Common.{refl}
use Rattle.pg_wire.specs.Backend.{NoData}
use Rattle.pg_call.proofs.PlaceLaws.{describes_none_at, plainly}
use Rattle.pg_call.proofs.judging.describe_none.Goals as goal

pub returns : goal.returns
returns c = plainly c.args.part _ 110 c.args.body.now NoData c.go_on.result c.go_on.ensures c.in_ok-decode_no_data.ensures.exact (describes_none_at c.args.part c.requires) refl
