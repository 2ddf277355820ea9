use Rattle.std.proofs.Common.{ℕ, Ok, length, take, ap, sym, ◌∙◌, arith}
use Rattle.std.proofs.lemmas.List.{length-take-le}
use Rattle.pg_auth.proofs.VerifierLaws.{no_signature_of_size, no_signature_undecoded, no_signature_of_count, is_encoded}
use Rattle.pg_auth.proofs.scram.server_final.decoded.Goals as goal

pub returns-then-text-ne-ENCODED : goal.returns-then-text-ne-ENCODED
returns-then-text-ne-ENCODED c = no_signature_of_size c.args.text.now c.if-text-ne-ENCODED.true

pub returns-in_default : goal.returns-in_default
returns-in_default c = no_signature_undecoded c.args.text.now _ c.in_default.ensures.err

pub returns-then-count-ne-SIGNATURE : goal.returns-then-count-ne-SIGNATURE
returns-then-count-ne-SIGNATURE c = no_signature_of_count c.args.text.now _ c.decode_slice_unchecked.new.output c.in-Ok.count c.decode_slice_unchecked.auto.output c.in-Ok.ensures.ok c.if-count-ne-SIGNATURE.true

pub returns : goal.returns
returns c = is_encoded c.args.text.now c.front.result (λ i. let f = c.type_inv.text i in omega arith)
    (c.in-Ok.ensures.ok.0 ∙ ap Ok (ap (λ (n : ℕ). take n c.decode_slice_unchecked.new.output) c.if-count-ne-SIGNATURE.false ∙ sym c.front.ensures.value))
    (ap length c.front.ensures.value ∙ length-take-le 32 c.decode_slice_unchecked.new.output (omega arith))
    c.front.ensures.bytes
