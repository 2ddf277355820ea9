-- Reading the elements of an array, one after the other.
use Rattle.std.proofs.Common.{◌≡◌, ℕ, zero, suc, Bool, true, false, eqb, eq-eqb, ◌+◌, ◌-◌, ◌<◌, ◌≤◌, List, [], ◌∷◌, ◌++◌, length, take, get_or, Option, Some, None, sym, ap, subst, ◌∙◌, append_assoc, arith}
use Rattle.std.specs.Prelude.{Result, Ok, Err, IfOk, IfErr}
use Rattle.pg_wire.specs.Reading.{many_at, value_at}
use Rattle.pg_wire.proofs.LoopLaws.{with_front, goes_on, ends, is_done}
use Rattle.pg_wire.specs.declared.error.Error.{Error}
use Rattle.pg_wire.specs.declared.error.Error.TheVariants as errors
use Rattle.std.proofs.lemmas.List.{take_more, take_all}
use Rattle.pg_values.specs.Texts.{ArrayTextOf, IsTextArray}
use Rattle.pg_values.proofs.TextLaws.{array_unique}
use Rattle.pg_values.specs.Arrays.{ReadsEach, OfItems}
use Rattle.pg_values.specs.ArrayReading.{head_at, ReadsElements, ReadsArray}
use Rattle.pg_values.specs.Values.{IsNoValue}

abbrev Values : Type 0
Values = List (Option (List ℕ))

abbrev Read : Type 0
Read = Option (Values × List ℕ)

abbrev read : Values → List ℕ → Read
read values rest = Some (values, rest)

pub reads_push : {X : Type 0} (reads : Option (List ℕ) → X → Type 0) (vs : Values) (xs : List X) (v : Option (List ℕ)) (x : X) → ReadsEach reads vs xs → reads v x → ReadsEach reads (vs ++ v ∷ []) (xs ++ x ∷ [])
reads_push reads [] [] v x h r = (r, tt)
reads_push reads [] (y ∷ ys) v x h r = absurd h
reads_push reads (w ∷ ws) [] v x h r = absurd h
reads_push reads (w ∷ ws) (y ∷ ys) v x h r = (h.0, reads_push reads ws ys v x h.1 r)

reads_at : {X : Type 0} (reads : Option (List ℕ) → X → Type 0) (front : Values) (v : Option (List ℕ)) (more : Values) (xs : List X) → ReadsEach reads (front ++ v ∷ more) xs → (x : X) × reads v x
reads_at reads [] v more [] h = absurd h
reads_at reads [] v more (x ∷ xs) h = (x, h.0)
reads_at reads (w ∷ ws) v more [] h = absurd h
reads_at reads (w ∷ ws) v more (x ∷ xs) h = reads_at reads ws v more xs h.1

none_some : (values : Values) (rest : List ℕ) → None ≡ read values rest → ⊥
none_some values rest e = absurd cc

front_of : (front : Values) (r : Read) (values : Values) (rest : List ℕ) → with_front front r ≡ read values rest → (more : Values) × (values ≡ front ++ more)
front_of front (Some x) values rest e = (x.0, ap (λ (y : Values × List ℕ). y.0) (sym (pair_is (front ++ x.0, x.1) (values, rest) e)))
  where
    pair_is : (a b : Values × List ℕ) → Some a ≡ Some b → a ≡ b
    pair_is a b e = cc
front_of front None values rest e = absurd cc

-- no value stands where one is missing
pub no_value_there : {X : Type 0} (reads : Option (List ℕ) → X → Type 0) (front : Values) (count i : ℕ) (rest bytes : List ℕ) (xs : List X) → i < count → value_at rest ≡ None
    → with_front front (many_at value_at (count - i) rest) ≡ many_at value_at count bytes → ReadsElements reads count bytes xs → ⊥
no_value_there reads front count i rest bytes xs lt none so_far r =
    none_some r.0 [] (ends value_at front count i rest (many_at value_at count bytes) lt none so_far ∙ r.1)

-- nor where a value is no element
no_list_there : {X : Type 0} (reads : Option (List ℕ) → X → Type 0) (front : Values) (count i : ℕ) (rest bytes : List ℕ) (v : Option (List ℕ)) (after : List ℕ) → i < count → value_at rest ≡ Some (v, after)
    → with_front front (many_at value_at (count - i) rest) ≡ many_at value_at count bytes → ((x : X) → reads v x → ⊥) → (xs : List X) → ReadsElements reads count bytes xs → ⊥
no_list_there reads front count i rest bytes v after lt some so_far bad xs r =
    let going = goes_on value_at front count i rest v after (many_at value_at count bytes) lt some so_far in
    let split = front_of (front ++ v ∷ []) (many_at value_at (count - (i + 1)) after) r.0 [] (going ∙ r.1) in
    let there = reads_at reads front v split.0 xs (subst (λ (w : Values). ReadsEach reads w xs) (split.1 ∙ append_assoc front (v ∷ []) split.0) r.2) in
    bad there.0 there.1

pub none_of : {X Y : Type 0} (P : X → Type 0) (Q : Y → Type 0) (e : Error) → (((x : X) → P x → ⊥) → (y : Y) → Q y → ⊥) → IsNoValue P e → IsNoValue Q e
none_of P Q errors.OutOfMemory h bad = tt
none_of P Q errors.Decode h bad = h bad
none_of P Q _ h bad = absurd bad

pub no_element_there : {X : Type 0} (reads : Option (List ℕ) → X → Type 0) (front : Values) (count i : ℕ) (rest bytes : List ℕ) (v : Option (List ℕ)) (after : List ℕ) (e : Error) → i < count → value_at rest ≡ Some (v, after)
    → with_front front (many_at value_at (count - i) rest) ≡ many_at value_at count bytes → IsNoValue (reads v) e → IsNoValue (OfItems (ReadsElements reads count bytes)) e
no_element_there reads front count i rest bytes v after e lt some so_far bad =
    none_of (reads v) (OfItems (ReadsElements reads count bytes)) e (λ b x. no_list_there reads front count i rest bytes v after lt some so_far b x.items) bad

heads : (a b : ℕ × List ℕ) → Some a ≡ Some b → b ≡ a
heads a b e = cc

same_elements : {X : Type 0} (reads : Option (List ℕ) → X → Type 0) (p q : ℕ × List ℕ) (xs : List X) → q ≡ p → ReadsElements reads q.0 q.1 xs → ReadsElements reads p.0 p.1 xs
same_elements reads p q xs e h = subst (λ (x : ℕ × List ℕ). ReadsElements reads x.0 x.1 xs) e h

pub no_elements_no_array : {X : Type 0} (reads : Option (List ℕ) → X → Type 0) (n : ℕ) (rest bytes : List ℕ) (e : Error) → head_at bytes ≡ Some (n, rest)
    → IsNoValue (OfItems (ReadsElements reads n rest)) e → IsNoValue (OfItems (ReadsArray reads bytes)) e
no_elements_no_array reads n rest bytes e head bad =
    none_of (OfItems (ReadsElements reads n rest)) (OfItems (ReadsArray reads bytes)) e (λ b x r. b x (same_elements reads (n, rest) (r.0, r.1) x.items (heads (n, rest) (r.0, r.1) (sym head ∙ r.2)) r.3)) bad

pub not_empty : (b : Bool) (n : ℕ) → b ≡ eqb n 0 → b ≡ false → n ≡ 0 → ⊥
not_empty b n e f z = let t : b ≡ true = e ∙ eq-eqb n 0 z in absurd cc

-- nor where bytes are left
pub nothing_left : {X : Type 0} (reads : Option (List ℕ) → X → Type 0) (front : Values) (count i : ℕ) (rest bytes : List ℕ) (xs : List X) → count ≤ i → (length rest ≡ 0 → ⊥)
    → with_front front (many_at value_at (count - i) rest) ≡ many_at value_at count bytes → ReadsElements reads count bytes xs → ⊥
nothing_left reads front count i rest bytes xs le left so_far r =
    left (ap (λ (y : Values × List ℕ). length y.1) (pair_is (front, rest) (r.0, []) (is_done value_at front count i rest (many_at value_at count bytes) le so_far ∙ r.1)))
  where
    pair_is : (a b : Values × List ℕ) → Some a ≡ Some b → a ≡ b
    pair_is a b e = cc

pub all_read : {X : Type 0} (reads : Option (List ℕ) → X → Type 0) (front : Values) (count i : ℕ) (rest bytes : List ℕ) (xs : List X) → count ≤ i → length rest ≡ 0
    → with_front front (many_at value_at (count - i) rest) ≡ many_at value_at count bytes → ReadsEach reads front xs → ReadsElements reads count bytes xs
all_read reads front count i [] bytes xs le empty so_far r = (front, sym (is_done value_at front count i [] (many_at value_at count bytes) le so_far), r)
all_read reads front count i (b ∷ bs) bytes xs le empty so_far r = absurd (omega (arith, empty))

pub on_err : {T E : Type 0} (r : Result T E) (P Q : E → Type 0) → ((e : E) → P e → Q e) → IfErr r P → IfErr r Q
on_err (Ok x) P Q h a = tt
on_err (Err e) P Q h a = h e a

pub on_ok : {T E : Type 0} (r : Result T E) (P Q : T → Type 0) → ((x : T) → P x → Q x) → IfOk r P → IfOk r Q
on_ok (Ok x) P Q h a = h x a
on_ok (Err e) P Q h a = tt

-- ---- elements that are there as a list

pub reads_next : {X : Type 0} (reads : Option (List ℕ) → X → Type 0) (all : Values) (i : ℕ) (xs : List X) (v : Option (List ℕ)) (x : X) → i < length all → v ≡ get_or all i v
    → ReadsEach reads (take i all) xs → reads v x → ReadsEach reads (take (i + 1) all) (xs ++ x ∷ [])
reads_next reads all i xs v x lt e h r = rw (take_more all i v lt, ← e) (reads_push reads (take i all) xs v x h r)

bad_list : {X : Type 0} (reads : Option (List ℕ) → X → Type 0) (all : Values) (i : ℕ) (v : Option (List ℕ)) → i < length all → v ≡ get_or all i v → ((x : X) → reads v x → ⊥) → (xs : List X) → ReadsEach reads all xs → ⊥
bad_list reads [] i v lt e bad xs r = absurd (omega (arith, lt))
bad_list reads (w ∷ ws) zero v lt e bad [] r = r
bad_list reads (w ∷ ws) zero v lt e bad (x ∷ xs) r = bad x (rw e r.0)
bad_list reads (w ∷ ws) (suc i) v lt e bad [] r = r
bad_list reads (w ∷ ws) (suc i) v lt e bad (x ∷ xs) r = bad_list reads ws i v (omega (arith, lt)) e bad xs r.1

pub bad_element : {X : Type 0} (reads : Option (List ℕ) → X → Type 0) (all : Values) (i : ℕ) (v : Option (List ℕ)) (e : Error) → i < length all → v ≡ get_or all i v → IsNoValue (reads v) e → IsNoValue (OfItems (ReadsEach reads all)) e
bad_element reads all i v e lt same bad = none_of (reads v) (OfItems (ReadsEach reads all)) e (λ b x. bad_list reads all i v lt same b x.items) bad

pub all_elements : {X : Type 0} (reads : Option (List ℕ) → X → Type 0) (all : Values) (i : ℕ) (xs : List X) → length all ≤ i → ReadsEach reads (take i all) xs → ReadsEach reads all xs
all_elements reads all i xs le h = rw (take_all i all le) at h

pub bad_text : {X : Type 0} (reads : Option (List ℕ) → X → Type 0) (bytes : List ℕ) (elements : Values) (e : Error) → ArrayTextOf bytes elements → IsNoValue (OfItems (ReadsEach reads elements)) e → IsNoValue (OfItems (IsTextArray reads bytes)) e
bad_text {X} reads bytes elements e text bad =
    none_of (OfItems (ReadsEach reads elements)) (OfItems (IsTextArray reads bytes)) e (λ b x r. b x (subst (λ (w : Values). ReadsEach reads w x.items) (array_unique bytes r.0 elements r.2 text) r.3)) bad

pub no_text : {X : Type 0} (reads : Option (List ℕ) → X → Type 0) (bytes : List ℕ) (e : Error) → IsNoValue (ArrayTextOf bytes) e → IsNoValue (OfItems (IsTextArray reads bytes)) e
no_text reads bytes e bad = none_of (ArrayTextOf bytes) (OfItems (IsTextArray reads bytes)) e (λ b x r. b r.0 r.2) bad
