-- Reading so many values one after the other, as a loop does.
use Rattle.std.proofs.Common.{◌≡◌, ℕ, suc, ◌-◌, ◌+◌, ◌≤◌, ◌<◌, List, [], ◌∷◌, ◌++◌, length, Option, Some, None, refl, sym, ap, ◌∙◌, append_assoc, append-nil, arith}
use Rattle.pg_wire.specs.Reading.{◌>>=◌, Reader, many_at, entry_at, until_at, listed_at}

-- what was read before, and what is still read
abbrev pub with_front : {A : Type 0} → List A → Option (List A × List ℕ) → Option (List A × List ℕ)
with_front front read = read >>= λ x. Some (front ++ x.0, x.1)

regroup : {A : Type 0} (front : List A) (a : A) (read : Option (List A × List ℕ)) → with_front front (read >>= λ x. Some (a ∷ x.0, x.1)) ≡ with_front (front ++ a ∷ []) read
regroup {A} front a (Some x) = ap (λ (xs : List A). Some (xs, x.1)) (simp append_assoc)
regroup front a None = refl

pub begins : {A : Type 0} (read : Option (List A × List ℕ)) → with_front [] read ≡ read
begins (Some x) = refl
begins None = refl

pub goes_on : {A : Type 0} (item : Reader A) (front : List A) (count i : ℕ) (bytes : List ℕ) (a : A) (after : List ℕ) (total : Option (List A × List ℕ)) → i < count → item bytes ≡ Some (a, after)
    → with_front front (many_at item (count - i) bytes) ≡ total → with_front (front ++ a ∷ []) (many_at item (count - (i + 1)) after) ≡ total
unfolding many_at
goes_on item front count i bytes a after total lt h so_far =
    let k : count - i ≡ suc (count - (i + 1)) = omega arith in
    let one : with_front front (many_at item (count - i) bytes) ≡ with_front (front ++ a ∷ []) (many_at item (count - (i + 1)) after) = rw (k, h) (regroup front a (many_at item (count - (i + 1)) after)) in
    sym one ∙ so_far

pub ends : {A : Type 0} (item : Reader A) (front : List A) (count i : ℕ) (bytes : List ℕ) (total : Option (List A × List ℕ)) → i < count → item bytes ≡ None
    → with_front front (many_at item (count - i) bytes) ≡ total → None ≡ total
unfolding many_at
ends item front count i bytes total lt h so_far =
    let k : count - i ≡ suc (count - (i + 1)) = omega arith in
    let one : with_front front (many_at item (count - i) bytes) ≡ None = rw (k, h) refl in
    sym one ∙ so_far

pub is_done : {A : Type 0} (item : Reader A) (front : List A) (count i : ℕ) (bytes : List ℕ) (total : Option (List A × List ℕ)) → count ≤ i → with_front front (many_at item (count - i) bytes) ≡ total → Some (front, bytes) ≡ total
unfolding many_at
is_done {A} item front count i bytes total le so_far =
    let k : count - i ≡ 0 = omega arith in
    let one : with_front front (many_at item (count - i) bytes) ≡ Some (front, bytes) = rw k (ap (λ (xs : List A). Some (xs, bytes)) (append-nil front)) in
    sym one ∙ so_far

-- ---- up to a zero byte

abbrev Read : Type 0 → Type 0
Read A = Option (List A × List ℕ)

pub until_goes : {A : Type 0} (item : Reader A) (front : List A) (count i : ℕ) (bytes : List ℕ) (a : A) (after : List ℕ) (total : Read A) → i < count → entry_at item bytes ≡ Some (Some a, after)
    → with_front front (until_at item (count - i) bytes) ≡ total → with_front (front ++ a ∷ []) (until_at item (count - (i + 1)) after) ≡ total
unfolding until_at
until_goes item front count i bytes a after total lt h so_far =
    let k : count - i ≡ suc (count - (i + 1)) = omega arith in
    let one : with_front front (until_at item (count - i) bytes) ≡ with_front (front ++ a ∷ []) (until_at item (count - (i + 1)) after) = rw (k, h) (regroup front a (until_at item (count - (i + 1)) after)) in
    sym one ∙ so_far

pub until_stops : {A : Type 0} (item : Reader A) (front : List A) (count i : ℕ) (bytes after : List ℕ) (total : Read A) → i < count → entry_at item bytes ≡ Some (None, after)
    → with_front front (until_at item (count - i) bytes) ≡ total → Some (front, after) ≡ total
unfolding until_at
until_stops {A} item front count i bytes after total lt h so_far =
    let k : count - i ≡ suc (count - (i + 1)) = omega arith in
    let one : with_front front (until_at item (count - i) bytes) ≡ Some (front, after) = rw (k, h) (ap (λ (xs : List A). Some (xs, after)) (append-nil front)) in
    sym one ∙ so_far

pub until_fails : {A : Type 0} (item : Reader A) (front : List A) (count i : ℕ) (bytes : List ℕ) (total : Read A) → i < count → entry_at item bytes ≡ None
    → with_front front (until_at item (count - i) bytes) ≡ total → None ≡ total
unfolding until_at
until_fails item front count i bytes total lt h so_far =
    let k : count - i ≡ suc (count - (i + 1)) = omega arith in
    let one : with_front front (until_at item (count - i) bytes) ≡ None = rw (k, h) refl in
    sym one ∙ so_far

pub until_ends : {A : Type 0} (item : Reader A) (front : List A) (count i : ℕ) (bytes : List ℕ) (total : Read A) → count ≤ i → with_front front (until_at item (count - i) bytes) ≡ total → None ≡ total
unfolding until_at
until_ends item front count i bytes total le so_far =
    let k : count - i ≡ 0 = omega arith in
    let one : with_front front (until_at item (count - i) bytes) ≡ None = rw k refl in
    sym one ∙ so_far

pub listed_is : {A : Type 0} (item : Reader A) (bytes : List ℕ) → until_at item (length bytes) bytes ≡ listed_at item bytes
unfolding listed_at
listed_is item bytes = refl
