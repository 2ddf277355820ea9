use Rattle.std.proofs.Common.{rules, ◌≡◌, ◌∙◌, ℕ, List, ap, w64, FitsSigned}
use Rattle.std.proofs.lemmas.Int.{to_z-of_z}
use Rattle.std.specs.Int.{from_le_bytes, cast_signed}
use Rattle.pg_auth.specs.Hkdf.{hkdf8}
use Rattle.pg_locks.specs.Locks.{info}
use Rattle.pg_locks.proofs.key.number_of_text.Goals as goal

pub returns-clause-value : goal.returns-clause-value
unfolding info
returns-clause-value c =
    let fits : FitsSigned w64 c.from_le_bytes.result = search rules in
    let bytes : c.in_ok-bytes.bytes ≡ hkdf8 c.args.text.now info = c.in_ok-bytes.ensures.value ∙ ap (λ (t : List ℕ). hkdf8 t info) c.as_bytes.ensures.value in
    to_z-of_z w64 c.from_le_bytes.result fits ∙ c.from_le_bytes.ensures ∙ ap (λ (b : List ℕ). cast_signed w64 (from_le_bytes w64 b)) bytes
