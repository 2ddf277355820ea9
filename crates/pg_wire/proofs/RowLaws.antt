-- Rows whose values are found by their places, and lists that are passed over.
use Rattle.std.proofs.Common.{◌≡◌, ℕ, zero, suc, ◌-◌, ◌+◌, ◌<◌, ◌≤◌, Bool, true, false, cond, eqb, List, [], ◌∷◌, length, drop, Option, Some, None, option_map, flat_map, refl, sym, ap, subst, ◌∙◌, arith}
use Rattle.std.specs.Prelude.{IsSome}
use Rattle.std.proofs.lemmas.Option.{cond_some, same_Some}
use Rattle.pg_wire.specs.Bytes.{value}
use Rattle.pg_wire.specs.Reading.{◌>>=◌, Reader, number16_at, value_at, many_at, counted_at, whole}
use Rattle.pg_wire.specs.Rows.{value_first, value_by, IsPlace, passed, count_passed}
use Rattle.pg_wire.specs.Backend.{DataRow, Values}
use Rattle.pg_wire.specs.Decoding.{Says}
use Rattle.pg_wire.specs.Frame.{Frame}
use Rattle.pg_wire.proofs.ReaderLaws.{bind_some, number16_exact}

-- a value that was read stands at its place
pub read_place : (body rest after : List ℕ) (place : ℕ) (v : Option (List ℕ)) → place ≤ length body → drop place body ≡ rest → value_at rest ≡ Some (v, after) → IsPlace body place × (value_by body place ≡ v)
read_place body rest after place v le at is =
    let found : value_at (drop place body) ≡ Some (v, after) = ap value_at at ∙ is in
    ((le, subst IsSome (sym found) refl), ap value_first found)

-- ---- lists that are passed over

-- the bytes behind a list
abbrev second : {A : Type 0} → List A × List ℕ → List ℕ
second x = x.1

passed_one : {A : Type 0} (a : A) (read : Option (List A × List ℕ)) → option_map second (read >>= λ x. Some (a ∷ x.0, x.1)) ≡ option_map second read
passed_one a (Some x) = refl
passed_one a None = refl

pub passed_goes : {A : Type 0} (item : Reader A) (count i : ℕ) (bytes : List ℕ) (a : A) (after : List ℕ) (total : Option (List ℕ)) → i < count → item bytes ≡ Some (a, after)
    → passed item (count - i) bytes ≡ total → passed item (count - (i + 1)) after ≡ total
unfolding many_at
passed_goes item count i bytes a after total lt h so_far =
    let k : count - i ≡ suc (count - (i + 1)) = omega arith in
    let one : passed item (count - i) bytes ≡ passed item (count - (i + 1)) after = rw (k, h) (passed_one a (many_at item (count - (i + 1)) after)) in
    sym one ∙ so_far

pub passed_ends : {A : Type 0} (item : Reader A) (count i : ℕ) (bytes : List ℕ) (total : Option (List ℕ)) → i < count → item bytes ≡ None → passed item (count - i) bytes ≡ total → None ≡ total
unfolding many_at
passed_ends item count i bytes total lt h so_far =
    let k : count - i ≡ suc (count - (i + 1)) = omega arith in
    let one : passed item (count - i) bytes ≡ None = rw (k, h) refl in
    sym one ∙ so_far

pub passed_done : {A : Type 0} (item : Reader A) (count i : ℕ) (bytes : List ℕ) (total : Option (List ℕ)) → count ≤ i → passed item (count - i) bytes ≡ total → Some bytes ≡ total
unfolding many_at
passed_done item count i bytes total le so_far =
    let k : count - i ≡ 0 = omega arith in
    let one : passed item (count - i) bytes ≡ Some bytes = rw k refl in
    sym one ∙ so_far

-- ---- a list that was passed over is one of so many

many_length : {A : Type 0} (item : Reader A) (n : ℕ) (bytes : List ℕ) (x : List A × List ℕ) → many_at item n bytes ≡ Some x → length x.0 ≡ n
unfolding many_at
many_length {A} item zero bytes x e = sym (ap (λ (y : List A × List ℕ). length y.0) (same_Some ([], bytes) x e))
many_length {A} item (suc n) bytes x e =
    let a = bind_some (item bytes) (λ first. many_at item n first.1 >>= λ others. Some (first.0 ∷ others.0, others.1)) x e in
    let b = bind_some (many_at item n a.0.1) (λ others. Some (a.0.0 ∷ others.0, others.1)) x a.2 in
    sym (ap (λ (y : List A × List ℕ). length y.0) (same_Some (a.0.0 ∷ b.0.0, b.0.1) x b.2)) ∙ ap suc (many_length item n a.0.1 b.0 b.1)

passed_some : {A : Type 0} (read : Option (List A × List ℕ)) (rest : List ℕ) → option_map second read ≡ Some rest → (x : List A × List ℕ) × (read ≡ Some x) × (x.1 ≡ rest)
passed_some (Some x) rest e = (x, refl, same_Some x.1 rest e)
passed_some None rest e = absurd cc

pub count_says : {A : Type 0} (item : Reader A) (body : List ℕ) (n : ℕ) → count_passed item body ≡ Some n → (xs : List A) × (whole (counted_at item) body ≡ Some xs) × (length xs ≡ n)
unfolding whole counted_at
count_says {A} item body n e =
    let a = bind_some (number16_at body) (λ m. passed item m.0 m.1 >>= λ rest. cond (eqb (length rest) 0) (Some m.0) None) n e in
    let b = bind_some (passed item a.0.0 a.0.1) (λ rest. cond (eqb (length rest) 0) (Some a.0.0) None) n a.2 in
    let g = cond_some (eqb (length b.0) 0) a.0.0 n b.2 in
    let c = passed_some (many_at item a.0.0 a.0.1) b.0 b.1 in
    let none : eqb (length c.0.1) 0 ≡ true = ap (λ (r : List ℕ). eqb (length r) 0) c.2 ∙ g.0 in
    let read : counted_at item body ≡ Some c.0 = ap (λ (o : Option (ℕ × List ℕ)). o >>= λ m. many_at item m.0 m.1) a.1 ∙ c.1 in
    let all : whole (counted_at item) body ≡ Some c.0.0 =
    ap (λ (o : Option (List A × List ℕ)). o >>= λ x. cond (eqb (length x.1) 0) (Some x.0) None) read ∙ ap (λ (b : Bool). cond b (Some c.0.0) None) none in
    (c.0.0, all, many_length item a.0.0 a.0.1 c.0 c.1 ∙ g.1)

none_chosen : {A B : Type 0} (test : Bool) (a : A) (b : B) → cond test (Some a) None ≡ None → cond test (Some b) None ≡ None
none_chosen true a b e = absurd cc
none_chosen false a b e = refl

none_passed : {A : Type 0} (read : Option (List A × List ℕ)) (n : ℕ) → (option_map second read >>= λ rest. cond (eqb (length rest) 0) (Some n) None) ≡ None
    → (read >>= λ x. cond (eqb (length x.1) 0) (Some x.0) None) ≡ None
none_passed (Some x) n e = none_chosen (eqb (length x.1) 0) n x.0 e
none_passed None n e = refl

none_counted : {A : Type 0} (item : Reader A) (number : Option (ℕ × List ℕ)) → (number >>= λ m. passed item m.0 m.1 >>= λ rest. cond (eqb (length rest) 0) (Some m.0) None) ≡ None
    → ((number >>= λ m. many_at item m.0 m.1) >>= λ x. cond (eqb (length x.1) 0) (Some x.0) None) ≡ None
none_counted item (Some m) e = none_passed (many_at item m.0 m.1) m.0 e
none_counted item None e = refl

pub count_none : {A : Type 0} (item : Reader A) (body : List ℕ) → count_passed item body ≡ None → whole (counted_at item) body ≡ None
unfolding whole counted_at
count_none item body e = none_counted item (number16_at body) e

-- a row begins with its number of values
pub width_says : (body : List ℕ) (values : Values) → Says 68 body (DataRow values) → number16_at body ≡ Some (length values, flat_map value values)
width_says body values s = ap (λ (f : Frame). number16_at f.body) (sym s.1) ∙ number16_exact.again (length values) (flat_map value values) s.0.0

width_read : (read : Option (ℕ × List ℕ)) (n : ℕ) (rest : List ℕ) → read ≡ Some (n, rest) → option_map (λ (x : ℕ × List ℕ). x.0) read ≡ Some n
width_read read n rest e = ap (option_map (λ (x : ℕ × List ℕ). x.0)) e

pub width_some : (body : List ℕ) (n : ℕ) (rest : List ℕ) → Some (n, rest) ≡ number16_at body → (values : Values) → Says 68 body (DataRow values) → Some n ≡ Some (length values)
width_some body n rest e values s = width_read (Some (n, rest)) (length values) (flat_map value values) (e ∙ width_says body values s)

pub width_none : (body : List ℕ) → None ≡ number16_at body → (values : Values) → Says 68 body (DataRow values) → None ≡ Some (length values)
width_none body e values s = width_read None (length values) (flat_map value values) (e ∙ width_says body values s)
