use Rattle.std.proofs.Common.{◌∙◌, ◌*◌, ℕ, sym, ap}
use Rattle.pg_stream.specs.Versions.{within}
use Rattle.pg_stream.proofs.VersionLaws.{version_none, version_one, version_two, version_three, version_four}
use Rattle.pg_stream.proofs.version.parse_server_version.Goals as goal

pub returns-in_err-major : goal.returns-in_err-major
returns-in_err-major c = c.from_residual.ensures ∙ sym (version_none c.args.text.now (sym (rw c.as_bytes.ensures.value at c.in_err-major.ensures)))

pub returns-in_default : goal.returns-in_default
returns-in_default c =
    let first = sym (rw c.as_bytes.ensures.value at c.in_ok-major.ensures) in
    c.fitting.ensures ∙ ap (λ (n : ℕ). within (10000 * n)) c.from.ensures ∙ sym (version_one _ _ _ first (sym c.in_default.ensures))

pub returns-in_default-further_number : goal.returns-in_default-further_number
returns-in_default-further_number c =
    let first = sym (rw c.as_bytes.ensures.value at c.in_ok-major.ensures) in
    c.version_of_two.ensures ∙ sym (version_two _ _ _ _ _ first (sym c.in-Some.ensures) (sym c.in_default-further_number.ensures))

pub returns-in-Some-further_number-2 : goal.returns-in-Some-further_number-2
returns-in-Some-further_number-2 c =
    let first = sym (rw c.as_bytes.ensures.value at c.in_ok-major.ensures) in
    sym (version_four _ _ _ _ _ _ _ _ first (sym c.in-Some.ensures) (sym c.in-Some-further_number.ensures) (sym c.in-Some-further_number-2.ensures))

pub returns-in-None : goal.returns-in-None
returns-in-None c =
    let first = sym (rw c.as_bytes.ensures.value at c.in_ok-major.ensures) in
    c.version_of_three.ensures ∙ sym (version_three _ _ _ _ _ _ _ first (sym c.in-Some.ensures) (sym c.in-Some-further_number.ensures) (sym c.in-None.ensures))
