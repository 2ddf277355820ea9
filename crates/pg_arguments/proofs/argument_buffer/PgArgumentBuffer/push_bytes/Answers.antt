use Rattle.std.proofs.Common.{◌≤◌, length, arith}
use Rattle.std.proofs.lemmas.List.{length-append}
use Rattle.pg_arguments.proofs.JoinLaws.{between_grows}
use Rattle.pg_arguments.proofs.argument_buffer.PgArgumentBuffer.push_bytes.Goals as goal

pub invariant_of-self-2 : goal.invariant_of-self-2
invariant_of-self-2 c =
    let longer : length c.self.inside.bytes.items ≤ length c.extend_from_slice.new.self.items =
    rw c.in_ok-extend_from_slice.ensures.items (omega (arith, length-append c.self.inside.bytes.items c.args.bytes.now)) in
    (between_grows 0 _ _ c.self.inside.holes.items longer c.self.invariant.0, omega (arith, longer, c.self.invariant.1))
