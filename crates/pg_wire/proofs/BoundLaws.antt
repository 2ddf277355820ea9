-- Values that stand in a message of a body have lengths that a value may have.
use Rattle.std.proofs.Common.{◌≡◌, ℕ, ◌<◌, ◌≤◌, ◌^◌, List, [], ◌∷◌, length, Option, Some, None, sym, subst, arith, flat_map}
use Rattle.std.specs.List.{AllByRecursion}
use Rattle.std.proofs.lemmas.List.{length-append}
use Rattle.pg_wire.specs.Bytes.{number32, value, HasNoNul}
use Rattle.pg_wire.specs.Frontend.{Bind, FitsValue, HasFrontendFrame}

fits_within : (v : Option (List ℕ)) → length (value v) < 2 ^ 31 → FitsValue v
fits_within None h = tt
fits_within (Some bytes) h = omega (arith, h, length-append (number32 (length bytes)) bytes)

pub fit_within : (values : List (Option (List ℕ))) → length (flat_map value values) < 2 ^ 31 → AllByRecursion FitsValue values
fit_within [] h = tt
fit_within (v ∷ vs) h =
    let both = length-append (value v) (flat_map value vs) in
    (fits_within v (omega (arith, h, both)), fit_within vs (omega (arith, h, both)))

-- what a Bind that was allowed says fits
pub bound_fits : (name params : List ℕ) (count : ℕ) (values : List (Option (List ℕ))) → HasNoNul name → count ≤ 65535 → length params < 2 ^ 31 → length values ≡ count → flat_map value values ≡ params → HasFrontendFrame (Bind name values)
bound_fits name params count values text few short is_count is_params =
    (text, omega (arith, few, is_count), fit_within values (subst (λ (u : List ℕ). length u < 2 ^ 31) (sym is_params) short))
