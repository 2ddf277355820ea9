-- What no value, no elements and no record are read of.
use Rattle.std.proofs.Common.{◌≡◌, ◌≢◌, ◌<◌, inl, inr, ℕ, zero, suc, List, [], ◌∷◌, ◌++◌, length, get_or, Option, Some, refl, sym, subst, arith}
use Rattle.std.specs.Prelude.{MatchOption, slice_get}
use Rattle.pg_wire.specs.declared.error.Error.{Error}
use Rattle.pg_wire.specs.declared.error.Error.TheVariants as errors
use Rattle.pg_values.specs.Arrays.{ReadsEach}
use Rattle.pg_values.specs.Texts.{ArrayTextOf, RecordTextOf}
use Rattle.pg_values.specs.Values.{IsNoValue}
use Rattle.pg_values.proofs.ReadLaws.{none_of}
use Rattle.pg_values.proofs.TextLaws.{array_unique, record_rest, items_unique}
use Rattle.pg_learning.specs.Texts.{Given, AreItems, AreTwo, IsPair}
use Rattle.pg_learning.specs.Lookups.{Values}
use Rattle.pg_learning.specs.Parts.{IsOfColumn, IsNoColumn}

-- ---- a column

never_reads : {X : Type 0} (P : X → Type 0) (e : Error) → e ≢ errors.OutOfMemory → IsNoValue P e → (x : X) → P x → ⊥
never_reads P errors.OutOfMemory n h = absurd (n refl)
never_reads P errors.Decode n h = h
never_reads P _ n h = absurd h

pub no_column : {X : Type 0} (reads : Option (List ℕ) → X → Type 0) (values : Values) (place : ℕ) (value : Option (List ℕ)) (e turned : Error) → Some value ≡ slice_get values place → IsNoValue (reads value) e → IsOfColumn e place turned → IsNoColumn reads values place turned
no_column reads values place value e turned at h (inl memory) = inl memory.1
no_column reads values place value e turned at h (inr other) = inr (other.1, λ x r. never_reads (reads value) e other.0 h x (subst (λ (o : Option (Option (List ℕ))). MatchOption o ⊥ (λ v. reads v x)) (sym at) r))

-- ---- elements

bad_list : {X : Type 0} (reads : Option (List ℕ) → X → Type 0) (all : Values) (i : ℕ) (v : Option (List ℕ)) → i < length all → v ≡ get_or all i v → ((x : X) → reads v x → ⊥) → (xs : List X) → ReadsEach reads all xs → ⊥
bad_list reads [] i v lt e bad xs r = absurd (omega (arith, lt))
bad_list reads (w ∷ ws) zero v lt e bad [] r = r
bad_list reads (w ∷ ws) zero v lt e bad (x ∷ xs) r = bad x (rw e r.0)
bad_list reads (w ∷ ws) (suc i) v lt e bad [] r = r
bad_list reads (w ∷ ws) (suc i) v lt e bad (x ∷ xs) r = bad_list reads ws i v (omega (arith, lt)) e bad xs r.1

pub bad_element : {X : Type 0} (reads : Option (List ℕ) → X → Type 0) (all : Values) (i : ℕ) (v : Option (List ℕ)) (e : Error) → i < length all → v ≡ get_or all i v → IsNoValue (reads v) e → IsNoValue (ReadsEach reads all) e
bad_element reads all i v e lt same bad = none_of (reads v) (ReadsEach reads all) e (λ b. bad_list reads all i v lt same b) bad

pub no_items : {X : Type 0} (means : List ℕ → X → Type 0) (bytes : List ℕ) (elements : Values) (e : Error) → ArrayTextOf bytes elements → IsNoValue (ReadsEach (Given means) elements) e → IsNoValue (AreItems means bytes) e
no_items means bytes elements e text bad =
    none_of (ReadsEach (Given means) elements) (AreItems means bytes) e (λ b xs r. b xs (subst (λ (w : Values). ReadsEach (Given means) w xs) (array_unique bytes r.0 elements r.2 text) r.3)) bad

pub no_array : {X : Type 0} (means : List ℕ → X → Type 0) (bytes : List ℕ) (e : Error) → IsNoValue (ArrayTextOf bytes) e → IsNoValue (AreItems means bytes) e
no_array means bytes e bad = none_of (ArrayTextOf bytes) (AreItems means bytes) e (λ b xs r. b r.0 r.2) bad

-- ---- records

pub record_unique : (text : List ℕ) (xs ys : Values) → RecordTextOf text xs → RecordTextOf text ys → xs ≡ ys
record_unique text xs ys r t =
    let one = record_rest text (r.0 ++ 41 ∷ []) xs r.2 r in
    let two = record_rest text (r.0 ++ 41 ∷ []) ys r.2 t in
    search (items_unique, one, two)

pub no_first : {X Y : Type 0} (first : List ℕ → X → Type 0) (second : List ℕ → Y → Type 0) (fields : Values) (a : Option (List ℕ)) (e : Error) → a ≡ get_or fields 0 a → IsNoValue (Given first a) e → IsNoValue (AreTwo first second fields) e
no_first first second [] a e same bad = none_of (Given first a) (AreTwo first second []) e (λ none p r. r) bad
no_first first second (v ∷ []) a e same bad = none_of (Given first a) (AreTwo first second (v ∷ [])) e (λ none p r. r) bad
no_first first second (v ∷ w ∷ []) a e same bad = none_of (Given first a) (AreTwo first second (v ∷ w ∷ [])) e (λ none p r. none p.0 (rw same r.0)) bad
no_first first second (v ∷ w ∷ u ∷ us) a e same bad = none_of (Given first a) (AreTwo first second (v ∷ w ∷ u ∷ us)) e (λ none p r. r) bad

pub no_second : {X Y : Type 0} (first : List ℕ → X → Type 0) (second : List ℕ → Y → Type 0) (fields : Values) (b : Option (List ℕ)) (e : Error) → b ≡ get_or fields 1 b → IsNoValue (Given second b) e → IsNoValue (AreTwo first second fields) e
no_second first second [] b e same bad = none_of (Given second b) (AreTwo first second []) e (λ none p r. r) bad
no_second first second (v ∷ []) b e same bad = none_of (Given second b) (AreTwo first second (v ∷ [])) e (λ none p r. r) bad
no_second first second (v ∷ w ∷ []) b e same bad = none_of (Given second b) (AreTwo first second (v ∷ w ∷ [])) e (λ none p r. none p.1 (rw same r.1)) bad
no_second first second (v ∷ w ∷ u ∷ us) b e same bad = none_of (Given second b) (AreTwo first second (v ∷ w ∷ u ∷ us)) e (λ none p r. r) bad

pub no_pair : {X Y : Type 0} (first : List ℕ → X → Type 0) (second : List ℕ → Y → Type 0) (bytes : List ℕ) (fields : Values) (e : Error) → RecordTextOf bytes fields → IsNoValue (AreTwo first second fields) e → IsNoValue (IsPair first second bytes) e
no_pair first second bytes fields e text bad =
    none_of (AreTwo first second fields) (IsPair first second bytes) e (λ none p r. none p (subst (λ (w : Values). AreTwo first second w p) (record_unique bytes r.0 fields r.2 text) r.3)) bad

pub no_record : {X Y : Type 0} (first : List ℕ → X → Type 0) (second : List ℕ → Y → Type 0) (bytes : List ℕ) (e : Error) → IsNoValue (RecordTextOf bytes) e → IsNoValue (IsPair first second bytes) e
no_record first second bytes e bad = none_of (RecordTextOf bytes) (IsPair first second bytes) e (λ none p r. none r.0 r.2) bad
