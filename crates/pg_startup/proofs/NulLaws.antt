-- A text without a first zero byte has none.
use Rattle.std.proofs.Common.{◌≡◌, ℕ, zero, suc, ◌+◌, ◌<◌, List, [], ◌∷◌, length, take, flat_map, get_or, Option, Some, None, refl, arith}
use Rattle.std.specs.Option.{option_or}
use Rattle.std.specs.Prelude.{nat_eq}
use Rattle.std.specs.List.{position_or_len}
use Rattle.std.proofs.lemmas.Bool.{ltb-false}
use Rattle.std.proofs.lemmas.List.Sums.{fails_before_first}
use Rattle.std.proofs.lemmas.List.Folds.{list_any_none}
use Rattle.pg_wire.specs.Bytes.{HasNoNul}
use Rattle.pg_auth.proofs.PlainLemmas.{all_before}
use Rattle.pg_startup.specs.Nuls.{first_nul, first_nul_in}
use Rattle.pg_startup.specs.Startups.{parameter_texts}

pub no_nul : (text : List ℕ) → first_nul text ≡ None → HasNoNul text
unfolding first_nul
no_nul text none =
    let past = ltb-false (position_or_len (nat_eq 0) text) (length text) (all_before (position_or_len (nat_eq 0) text) (length text) (position_or_len (nat_eq 0) text) none) in
    list_any_none (nat_eq 0) text (λ i d lt. fails_before_first (nat_eq 0) text i d (omega arith))

-- ---- the texts of parameters

both_none : (a b : Option ℕ) → option_or a b ≡ None → (a ≡ None) × (b ≡ None)
both_none None b e = (refl, e)
both_none (Some n) b e = absurd cc

or_none : (a b : Option ℕ) → a ≡ None → b ≡ None → option_or a b ≡ None
or_none a b e f = rw (e, f) refl

nul_suc : (xs : List (List ℕ × List ℕ)) (i : ℕ) → first_nul_in (flat_map parameter_texts (take i xs)) ≡ None → (x : List ℕ × List ℕ) → x ≡ get_or xs i x → first_nul_in (parameter_texts x) ≡ None → first_nul_in (flat_map parameter_texts (take (suc i) xs)) ≡ None
nul_suc [] i h x e p = refl
nul_suc (y ∷ xs) zero h x e p = rw (← e) p
nul_suc (y ∷ xs) (suc i) h x e p =
    let one = both_none (first_nul y.0) (option_or (first_nul y.1) (first_nul_in (flat_map parameter_texts (take i xs)))) h in
    let two = both_none (first_nul y.1) (first_nul_in (flat_map parameter_texts (take i xs))) one.1 in
    or_none (first_nul y.0) (option_or (first_nul y.1) (first_nul_in (flat_map parameter_texts (take (suc i) xs)))) one.0
    (or_none (first_nul y.1) (first_nul_in (flat_map parameter_texts (take (suc i) xs))) two.0 (nul_suc xs i two.1 x e p))

pub nul_next : (xs : List (List ℕ × List ℕ)) (i : ℕ) → first_nul_in (flat_map parameter_texts (take i xs)) ≡ None → (x : List ℕ × List ℕ) → x ≡ get_or xs i x → first_nul_in (parameter_texts x) ≡ None → first_nul_in (flat_map parameter_texts (take (i + 1) xs)) ≡ None
nul_next xs i h x e p = let next : i + 1 ≡ suc i = omega arith in rw next (nul_suc xs i h x e p)

some_first : (a b c : Option ℕ) (n : ℕ) → option_or a (option_or b None) ≡ Some n → option_or a (option_or b c) ≡ Some n
some_first (Some m) b c n e = e
some_first None (Some m) c n e = e
some_first None None c n e = absurd cc

pub nul_at : (xs : List (List ℕ × List ℕ)) (i n : ℕ) → first_nul_in (flat_map parameter_texts (take i xs)) ≡ None → i < length xs → (x : List ℕ × List ℕ) → x ≡ get_or xs i x → first_nul_in (parameter_texts x) ≡ Some n → first_nul_in (flat_map parameter_texts xs) ≡ Some n
nul_at [] i n h lt x e p = absurd (omega arith)
nul_at (y ∷ xs) zero n h lt x e p = some_first (first_nul y.0) (first_nul y.1) (first_nul_in (flat_map parameter_texts xs)) n (rw (← e) p)
nul_at (y ∷ xs) (suc i) n h lt x e p =
    let one = both_none (first_nul y.0) (option_or (first_nul y.1) (first_nul_in (flat_map parameter_texts (take i xs)))) h in
    let two = both_none (first_nul y.1) (first_nul_in (flat_map parameter_texts (take i xs))) one.1 in
    rw (one.0, two.0) (nul_at xs i n two.1 (omega arith) x e p)
