use Rattle.std.proofs.Common.{append_assoc}
use Rattle.pg_resolve.specs.Nullable.{more_column}
use Rattle.pg_resolve.proofs.nullable.push_column.Goals as goal

pub returns : goal.returns
unfolding more_column
returns c = simp append_assoc c.write.ensures.bytes
