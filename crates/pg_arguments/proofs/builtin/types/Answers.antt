use Rattle.std.proofs.Common.{refl}
use Rattle.pg_arguments.specs.Builtin.{builtin_types}
use Rattle.pg_arguments.proofs.builtin.types.Goals as goal

pub returns : goal.returns
unfolding builtin_types
returns c = refl
