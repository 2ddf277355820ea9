-- Numbers in a text add no zero byte to it.
use Rattle.std.proofs.Common.{ℕ, ◌<◌, ◌^◌, suc, List, [], ◌∷◌, ◌++◌, codes, decimal, refl, arith}
use Rattle.std.specs.Prelude.{ℤ, pos, negsuc, FitsSigned}
use Rattle.std.specs.Fmt.{signed_decimal}
use Rattle.std.specs.Int.{w32, w64}
use Rattle.pg_wire.specs.Bytes.{HasNoNul}
use Rattle.pg_wire.proofs.NameLaws.{nul_free_append, decimal_nul_free}
use lib.Signed.{mag}

signed_said : (z : ℤ) → mag z < 2 ^ 63 → HasNoNul (signed_decimal z)
signed_said (pos n) lt = decimal_nul_free n (omega (arith, lt))
signed_said (negsuc n) lt = nul_free_append (45 ∷ []) (decimal (suc n)) refl (decimal_nul_free (suc n) (omega (arith, lt)))

signed32_said : (z : ℤ) → mag z < 2 ^ 31 → HasNoNul (signed_decimal z)
signed32_said z lt = signed_said z (omega (arith, lt))

behind : (front : List ℕ) (z : ℤ) (end : List ℕ) → HasNoNul front → HasNoNul (signed_decimal z) → HasNoNul end → HasNoNul (front ++ signed_decimal z ++ end)
behind front z end f s e = nul_free_append (front ++ signed_decimal z) end (nul_free_append front (signed_decimal z) f s) e

pub one_said : (call : List ℕ) (z : ℤ) → HasNoNul call → FitsSigned w64 z → HasNoNul (call ++ signed_decimal z ++ codes ")")
one_said call z c fits = behind call z (codes ")") c (signed_said z fits.sfits) refl

pub two_said : (call : List ℕ) (y z : ℤ) → HasNoNul call → FitsSigned w32 y → FitsSigned w32 z → HasNoNul (call ++ signed_decimal y ++ codes ", " ++ signed_decimal z ++ codes ")")
two_said call y z c fits more = behind (call ++ signed_decimal y ++ codes ", ") z (codes ")") (behind call y (codes ", ") c (signed32_said y fits.sfits) refl) (signed32_said z more.sfits) refl
