-- Lists that a zero byte ends.
use Rattle.std.proofs.Common.{◌≡◌, ◌≢◌, ℕ, zero, suc, ◌<◌, List, [], ◌∷◌, ◌++◌, length, get_or, Option, Some, None, refl, sym, ap, subst, ◌∙◌, append_assoc, arith, flat_map}
use Rattle.std.specs.List.{AllByRecursion}
use Rattle.std.proofs.lemmas.List.{length-append}
use Rattle.pg_wire.specs.Bytes.{AreBytes}
use Rattle.pg_wire.specs.Reading.{◌>>=◌, Reader, entry_at, followed_by, until_at, listed_at}
use Rattle.pg_wire.proofs.ReaderLaws.{bind_some, rest_bytes, IsExact}
use Rattle.std.proofs.lemmas.Option.{same_Some}

-- items whose codes do not begin with a zero byte
pub record IsItem {A : Type 0} (P Q : A → Type 0) (f : A → List ℕ) : Type 0 where
  pub filled : (a : A) → 0 < length (f a)
  pub fits : (a : A) → P a → get_or (f a) 0 0 ≢ 0 → Q a
  pub again : (a : A) → Q a → P a
  pub begins : (a : A) → Q a → get_or (f a) 0 0 ≢ 0

head_is : (xs ys : List ℕ) → 0 < length xs → get_or (xs ++ ys) 0 0 ≡ get_or xs 0 0
head_is [] ys lt = absurd (omega (arith, lt))
head_is (x ∷ xs) ys lt = refl

abbrev listed_bytes : {A : Type 0} → (A → List ℕ) → List A → List ℕ
listed_bytes f xs = flat_map f xs ++ 0 ∷ []

entry_item : {A : Type 0} (item : Reader A) (bytes : List ℕ) → get_or bytes 0 0 ≢ 0 → entry_at item bytes ≡ (item bytes >>= λ x. Some (Some x.0, x.1))
unfolding entry_at
entry_item item [] h = absurd (h refl)
entry_item item (zero ∷ bytes) h = absurd (h refl)
entry_item item (suc b ∷ bytes) h = refl

-- what an entry took
abbrev Took : {A : Type 0} → (A → Type 0) → (A → List ℕ) → List ℕ → Option A × List ℕ → Type 0
Took Q f bytes (None, rest) = bytes ≡ 0 ∷ rest
Took Q f bytes (Some a, rest) = Q a × (bytes ≡ f a ++ rest)

entry_takes : {A : Type 0} (P Q : A → Type 0) (f : A → List ℕ) (item : Reader A) → IsExact P f item → IsItem P Q f → (bytes : List ℕ) (x : Option A × List ℕ) → AreBytes bytes → entry_at item bytes ≡ Some x → Took Q f bytes x
unfolding entry_at
entry_takes P Q f item p q [] x h e = absurd cc
entry_takes P Q f item p q (zero ∷ bytes) x h e = subst (Took Q f (0 ∷ bytes)) (same_Some (None, bytes) x e) refl
entry_takes P Q f item p q (suc b ∷ bytes) x h e =
    let a = bind_some (item (suc b ∷ bytes)) (λ y. Some (Some y.0, y.1)) x e in
    let t = p.takes (suc b ∷ bytes) a.0 h a.1 in
    let head : suc b ≡ get_or (f a.0.0) 0 0 = ap (λ (u : List ℕ). get_or u 0 0) t.1 ∙ head_is (f a.0.0) a.0.1 (q.filled a.0.0) in
    subst (Took Q f (suc b ∷ bytes)) (same_Some (Some a.0.0, a.0.1) x a.2) (q.fits a.0.0 t.0 (λ z. let clash = head ∙ z in absurd (omega (arith, clash))), t.1)

follows : {A : Type 0} (P Q : A → Type 0) (f : A → List ℕ) (item : Reader A) → IsExact P f item → IsItem P Q f → (n : ℕ) (bytes : List ℕ) (entry : Option A × List ℕ) (x : List A × List ℕ) → AreBytes bytes → Took Q f bytes entry
    → ((rest : List ℕ) (y : List A × List ℕ) → AreBytes rest → until_at item n rest ≡ Some y → AllByRecursion Q y.0 × (rest ≡ listed_bytes f y.0 ++ y.1))
    → followed_by (until_at item n) entry ≡ Some x → AllByRecursion Q x.0 × (bytes ≡ listed_bytes f x.0 ++ x.1)
follows {A} P Q f item p q n bytes (None, rest) x h took further e = subst (λ (y : List A × List ℕ). AllByRecursion Q y.0 × (bytes ≡ listed_bytes f y.0 ++ y.1)) (same_Some ([], rest) x e) (tt, took)
follows {A} P Q f item p q n bytes (Some a, rest) x h took further e =
    let b = bind_some (until_at item n rest) (λ y. Some (a ∷ y.0, y.1)) x e in
    let t = further rest b.0 (rest_bytes bytes (f a) rest h took.1) b.1 in
    let whole : bytes ≡ listed_bytes f (a ∷ b.0.0) ++ b.0.1 = took.1 ∙ ap (λ (u : List ℕ). f a ++ u) t.1 ∙ simp append_assoc in
    subst (λ (y : List A × List ℕ). AllByRecursion Q y.0 × (bytes ≡ listed_bytes f y.0 ++ y.1)) (same_Some (a ∷ b.0.0, b.0.1) x b.2) ((took.0, t.0), whole)

until_takes : {A : Type 0} (P Q : A → Type 0) (f : A → List ℕ) (item : Reader A) → IsExact P f item → IsItem P Q f → (n : ℕ) (bytes : List ℕ) (x : List A × List ℕ) → AreBytes bytes → until_at item n bytes ≡ Some x → AllByRecursion Q x.0 × (bytes ≡ listed_bytes f x.0 ++ x.1)
unfolding until_at
until_takes P Q f item p q zero bytes x h e = absurd cc
until_takes P Q f item p q (suc n) bytes x h e =
    let a = bind_some (entry_at item bytes) (followed_by (until_at item n)) x e in
    follows P Q f item p q n bytes a.0 x h (entry_takes P Q f item p q bytes a.0 h a.1) (until_takes P Q f item p q n) a.2

stop : {A : Type 0} (item : Reader A) (n : ℕ) (rest : List ℕ) → until_at item (suc n) (0 ∷ rest) ≡ Some ([], rest)
unfolding until_at entry_at
stop item n rest = refl

until_again : {A : Type 0} (P Q : A → Type 0) (f : A → List ℕ) (item : Reader A) → IsExact P f item → IsItem P Q f → (n : ℕ) (xs : List A) (rest : List ℕ) → length xs < n → AllByRecursion Q xs → until_at item n (listed_bytes f xs ++ rest) ≡ Some (xs, rest)
unfolding until_at
until_again P Q f item p q zero xs rest lt h = absurd (omega (arith, lt))
until_again P Q f item p q (suc n) [] rest lt h = stop item n rest
until_again P Q f item p q (suc n) (x ∷ xs) rest lt h =
    let regrouped : listed_bytes f (x ∷ xs) ++ rest ≡ f x ++ (listed_bytes f xs ++ rest) = simp append_assoc in
    let head : get_or (f x ++ (listed_bytes f xs ++ rest)) 0 0 ≢ 0 = λ z. q.begins x h.0 (sym (head_is (f x) (listed_bytes f xs ++ rest) (q.filled x)) ∙ z) in
    ap (until_at item (suc n)) regrouped
    ∙ rw (entry_item item (f x ++ (listed_bytes f xs ++ rest)) head, p.again x (listed_bytes f xs ++ rest) (q.again x h.0), until_again P Q f item p q n xs rest (omega (arith, lt)) h.1) refl

shorter : {A : Type 0} (P Q : A → Type 0) (f : A → List ℕ) → IsItem P Q f → (xs : List A) → length xs < length (listed_bytes f xs)
shorter P Q f q [] = omega arith
shorter P Q f q (x ∷ xs) =
    let rest = shorter P Q f q xs in
    let one = q.filled x in
    let a = length-append (f x) (listed_bytes f xs) in
    let grouped : length (listed_bytes f (x ∷ xs)) ≡ length (f x ++ listed_bytes f xs) = ap (λ (u : List ℕ). length u) (append_assoc (f x) (flat_map f xs) (0 ∷ [])) in
    omega (arith, rest, one, a, grouped)

pub listed_exact : {A : Type 0} (P Q : A → Type 0) (f : A → List ℕ) (item : Reader A) → IsExact P f item → IsItem P Q f → IsExact (AllByRecursion Q) (λ xs. flat_map f xs ++ 0 ∷ []) (listed_at item)
unfolding listed_at
listed_exact P Q f item p q = record {
  takes = λ bytes x h e. until_takes P Q f item p q (length bytes) bytes x h e;
  again = λ xs rest h.
      let len = length-append (listed_bytes f xs) rest in
      let short = shorter P Q f q xs in
      until_again P Q f item p q (length (listed_bytes f xs ++ rest)) xs rest (omega (arith, len, short)) h;
}
