use Rattle.std.proofs.Common.{sym, ap, ◌∙◌}
use Rattle.pg_auth.specs.Reading.{verifier_at}
use Rattle.pg_auth.proofs.VerifierLaws.{no_verifier, no_verifier_behind, verifier_behind}
use Rattle.pg_auth.proofs.scram.server_final.signature.Goals as goal

pub returns-in_default : goal.returns-in_default
returns-in_default c = no_verifier c.args.text.now (ap verifier_at (sym c.as_bytes.ensures.value) ∙ sym c.in_default.ensures)

pub returns-in_default-decoded : goal.returns-in_default-decoded
returns-in_default-decoded c = no_verifier_behind c.args.text.now c.in-Some.encoded.now (ap verifier_at (sym c.as_bytes.ensures.value) ∙ sym c.in-Some.ensures) c.in_default-decoded.ensures

pub returns : goal.returns
returns c = verifier_behind c.args.text.now c.in-Some.encoded.now c.in-Some-decoded.signature (ap verifier_at (sym c.as_bytes.ensures.value) ∙ sym c.in-Some.ensures) c.in-Some-decoded.ensures
