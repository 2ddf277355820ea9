use Rattle.std.proofs.Common.{◌≡◌, ◌+◌, ◌∷◌, [], length, arith}
use Rattle.std.proofs.lemmas.List.{length-append}
use Rattle.pg_arguments.proofs.JoinLaws.{between_next}
use Rattle.pg_arguments.proofs.argument_buffer.PgArgumentBuffer.push_hole.Goals as goal

pub invariant_of-self-in-Ok : goal.invariant_of-self-in-Ok
invariant_of-self-in-Ok c =
    let longer : length c.extend_from_slice.new.self.items ≡ length c.self.inside.bytes.items + 4 =
    rw c.in_ok-extend_from_slice.ensures.items (omega (arith, length-append c.self.inside.bytes.items (0 ∷ 0 ∷ 0 ∷ 0 ∷ []))) in (
      rw c.in-Ok.ensures.items (between_next 0 (length c.self.inside.bytes.items) _ _ c.self.inside.holes.items _ (omega (arith, c.len-place.ensures)) longer c.self.invariant.0),
      omega (arith, longer, c.self.invariant.1),
    )
