use Rattle.std.proofs.Common.{◌+◌, refl, arith, sym, ◌∙◌}
use Rattle.pg_wire.proofs.HeaderLaws.{whole_is_front}
use Rattle.pg_wire.proofs.cutting.cut.Goals as goal

pub returns-clause-front : goal.returns-clause-front
returns-clause-front c =
    let bytes = c.args.bytes.now in
    let wide = c.from-total.ensures in
    let size = c.from_be_bytes-length.ensures in
    let known = c.is_backend_tag.ensures in
    let passed = c.if-not-is_backend_tag.false in
    whole_is_front bytes _ (1 + c.from-total.result) (λ i. omega (arith, c.type_inv.bytes i)) (omega arith, refl, sym known ∙ passed, omega (arith, size), omega (arith, wide, size), omega arith)
