use Rattle.std.proofs.Common.{refl}
use Rattle.pg_wire.specs.Backend.{ParameterDescription}
use Rattle.pg_call.proofs.PlaceLaws.{types_at}
use Rattle.pg_call.proofs.judging.type_parameters.Goals as goal

pub returns : goal.returns
returns c = (ParameterDescription c.in_ok-types.types, c.in_ok-types.ensures, (types_at c.args.part _ c.requires, refl))
