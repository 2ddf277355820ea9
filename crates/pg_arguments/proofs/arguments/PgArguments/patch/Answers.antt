use Rattle.std.proofs.Common.{◌≡◌, length, refl, ap, arith}
use Rattle.pg_arguments.specs.Arguments.{Arguments}
use Rattle.pg_arguments.proofs.ArgumentLaws.{patched_values, patched_as_if_known}
use Rattle.pg_arguments.proofs.arguments.PgArguments.patch.Goals as goal

pub invariant_of-self : goal.invariant_of-self
invariant_of-self c =
    let same : length c.self.inside.buffer.holes ≡ length c.args.self.now.encoded.holes = ap (λ (a : Arguments). length a.encoded.holes) c.self.view_is in
    patched_values c.self.inside.types.items c.self.inside.buffer c.patch.new.self c.args.hole c.args.oid (omega (arith, c.requires, same)) c.patch.ensures.value c.self.invariant

pub returns-clause-as_if_known : goal.returns-clause-as_if_known
returns-clause-as_if_known c = rw (← c.self.view_is) (patched_as_if_known _ _ c.args.hole c.args.oid refl c.patch.ensures.value)
