use Rattle.std.proofs.Common.{◌∙◌}
use Rattle.pg_arguments.proofs.arguments.PgArguments.to_copy.Goals as goal

pub invariant_of-result : goal.invariant_of-result
invariant_of-result c = rw (c.in_ok-types.ensures ∙ c.deref.ensures.value, c.in_ok-buffer.ensures) c.self.invariant
