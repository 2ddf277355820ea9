-- Texts that are listed one behind the other, with a comma between two.
use Rattle.std.proofs.Common.{◌≡◌, ℕ, ◌+◌, ◌<◌, List, [], ◌∷◌, ◌++◌, length, get_or, take, codes, refl, sym, ap, ◌∙◌, append-nil, append_assoc}
use Rattle.std.proofs.lemmas.List.{take_more}
use Rattle.std.proofs.lemmas.Grind.{flat_map-append}
use Rattle.std.specs.List.{flat_map}
use Rattle.pg_resolve.specs.Listed.{behind_comma, listed}

-- what stands between these and one more
abbrev pub comma_behind : {A : Type 0} → List A → List ℕ
comma_behind [] = []
comma_behind (x ∷ xs) = codes ", "

listed-push : {A : Type 0} (text : A → List ℕ) (xs : List A) (x : A) → listed text (xs ++ x ∷ []) ≡ (listed text xs ++ comma_behind xs) ++ text x
listed-push text [] x = append-nil (text x)
listed-push text (y ∷ ys) x =
    ap (λ t. text y ++ t) (flat_map-append (behind_comma text) ys (x ∷ []) ∙ ap (λ t. flat_map (behind_comma text) ys ++ t) (append-nil (behind_comma text x)))
    ∙ simp append_assoc

comma-push : {A : Type 0} (xs : List A) (x : A) → comma_behind (xs ++ x ∷ []) ≡ codes ", "
comma-push [] x = refl
comma-push (y ∷ ys) x = refl

next : {A : Type 0} (xs : List A) (i : ℕ) (x : A) → i < length xs → x ≡ get_or xs i x → take (i + 1) xs ≡ take i xs ++ x ∷ []
next xs i x lt e = take_more xs i x lt ∙ ap (λ y. take i xs ++ y ∷ []) (sym e)

pub comma_next : {A : Type 0} (xs : List A) (i : ℕ) (x : A) → i < length xs → x ≡ get_or xs i x → codes ", " ≡ comma_behind (take (i + 1) xs)
comma_next xs i x lt e = sym (ap comma_behind (next xs i x lt e) ∙ comma-push (take i xs) x)

pub listed_next : {A : Type 0} (text : A → List ℕ) (xs : List A) (i : ℕ) (x : A) (start comma out behind now : List ℕ) → i < length xs → x ≡ get_or xs i x → comma ≡ comma_behind (take i xs)
    → out ≡ start ++ listed text (take i xs) → behind ≡ out ++ comma → now ≡ behind ++ text x → now ≡ start ++ listed text (take (i + 1) xs)
listed_next text xs i x start comma out behind now lt e is before f g =
    rw (g, f, before, is, next xs i x lt e, listed-push text (take i xs) x) (simp append_assoc)
