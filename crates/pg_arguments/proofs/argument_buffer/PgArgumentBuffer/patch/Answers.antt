use Rattle.std.proofs.Common.{◌≡◌, ◌<◌, length, refl, ap, ◌∙◌, arith}
use Rattle.pg_wire.specs.Bytes.{number32}
use Rattle.pg_arguments.specs.Encoded.{Encoded, patched}
use Rattle.pg_arguments.proofs.JoinLaws.{between_grows, place_at_is, patched_open}
use Rattle.pg_arguments.proofs.PatchLaws.{room_at, remove_between, overwritten_size}
use Rattle.pg_arguments.proofs.argument_buffer.PgArgumentBuffer.patch.Goals as goal

pub write_number-requires : goal.write_number-requires
write_number-requires c =
    let same : length c.self.inside.holes.items ≡ length c.args.self.now.holes = ap (λ (e : Encoded). length e.holes) c.self.view_is in
    room_at (length c.self.inside.bytes.items) c.self.inside.holes.items c.args.hole c.remove-place.result (omega (arith, same, c.requires)) c.remove-place.ensures.value c.self.invariant.0

pub invariant_of-self : goal.invariant_of-self
invariant_of-self c =
    let same : length c.self.inside.holes.items ≡ length c.args.self.now.holes = ap (λ (e : Encoded). length e.holes) c.self.view_is in
    let room = room_at (length c.self.inside.bytes.items) c.self.inside.holes.items c.args.hole c.remove-place.result (omega (arith, same, c.requires)) c.remove-place.ensures.value c.self.invariant.0 in
    let size : length c.write_number.new.bytes.items ≡ length c.self.inside.bytes.items =
    ap length c.write_number.ensures ∙ overwritten_size c.remove-place.result.place (number32 c.oid.inside.0) c.self.inside.bytes.items room in (
      rw c.remove-place.ensures.items (between_grows 0 (length c.self.inside.bytes.items) _ _ (omega (arith, size)) (remove_between 0 (length c.self.inside.bytes.items) c.self.inside.holes.items c.args.hole c.self.invariant.0)),
      omega (arith, size, c.self.invariant.1),
    )

pub returns-clause-value : goal.returns-clause-value
returns-clause-value c =
    let same : length c.self.inside.holes.items ≡ length c.args.self.now.holes = ap (λ (e : Encoded). length e.holes) c.self.view_is in
    let below : c.args.hole < length c.self.inside.holes.items = omega (arith, same, c.requires) in
    let place = place_at_is c.self.inside.holes.items c.args.hole c.remove-place.result below c.remove-place.ensures.value in
    rw (← c.self.view_is, c.write_number.ensures, c.remove-place.ensures.items, place, ← c.oid.view_is) refl

pub returns-clause-as_if_known : goal.returns-clause-as_if_known
returns-clause-as_if_known c = λ front back of made at.
    returns-clause-value c ∙ ap (patched c.args.hole c.args.oid) made ∙ patched_open front back of (number32 c.args.oid) c.args.hole refl at
