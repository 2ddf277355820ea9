-- Names of statements and portals hold no zero byte.
use Rattle.std.proofs.Common.{◌≡◌, ℕ, ◌+◌, ◌<◌, ◌^◌, Bool, true, false, ◌||◌, nat_eq, List, [], ◌∷◌, ◌++◌, decimal, refl, arith, ne_eqb}
use Rattle.std.specs.List.{list_any}
use Rattle.std.proofs.lemmas.Fmt.{decimal_by_steps}
use Rattle.pg_wire.specs.Bytes.{HasNoNul}
use Rattle.pg_wire.proofs.Tests.{neither_true}

pub both_false : (a b : Bool) → a ≡ false → b ≡ false → (a || b) ≡ false
both_false true b e f = absurd cc
both_false false b e f = f

pub nul_free_append : (a b : List ℕ) → HasNoNul a → HasNoNul b → HasNoNul (a ++ b)
nul_free_append [] b h k = k
nul_free_append (x ∷ a) b h k =
    let apart = neither_true (nat_eq 0 x) (list_any (nat_eq 0) a) h in
    both_false (nat_eq 0 x) (list_any (nat_eq 0) (a ++ b)) apart.0 (nul_free_append a b apart.1 k)

digit_nul_free : (n : ℕ) → HasNoNul ((48 + n) ∷ [])
digit_nul_free n = both_false (nat_eq 0 (48 + n)) false (ne_eqb 0 (48 + n) (λ e. absurd (omega (arith, e)))) refl

pub decimal_nul_free : (n : ℕ) → n < 2 ^ 64 → HasNoNul (decimal n)
decimal_nul_free n lt = decimal_by_steps (λ _ ds. HasNoNul ds) (λ d _. digit_nul_free d) (λ m ds _ h. nul_free_append ds _ h (digit_nul_free _)) n lt

pub numbered_nul_free : (prefix : List ℕ) (n : ℕ) → HasNoNul prefix → n < 2 ^ 32 → HasNoNul (prefix ++ decimal n)
numbered_nul_free prefix n h lt = nul_free_append prefix (decimal n) h (decimal_nul_free n (omega (arith, lt)))
