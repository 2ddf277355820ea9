-- The places of a row's values in the body of its message.
use Rattle.std.proofs.Common.{◌≡◌, ℕ, ◌-◌, ◌+◌, ◌<◌, ◌≤◌, ◌^◌, Bool, true, false, cond, ◌&&◌, eqb, ltb, leb, List, [], ◌∷◌, ◌++◌, length, take, drop, map, All, Option, Some, None, option_map, refl, sym, ap, ◌∙◌, arith, eqb-true, ne_eqb}
use Rattle.std.proofs.lemmas.Bool.{eqb-false, lt-ltb, le-leb, lt-leb}
use Rattle.std.proofs.lemmas.List.{length-drop, drop-drop, map_push}
use Rattle.std.proofs.lemmas.List.Elements.{All-nil, All-push}
use Rattle.std.proofs.lemmas.Option.{same_Some}
use Rattle.pg_wire.specs.Backend.{DataRow}
use Rattle.pg_wire.specs.Bytes.{AreBytes}
use Rattle.pg_wire.specs.Decoding.{Says}
use Rattle.pg_wire.specs.Reading.{◌>>=◌, Reader, number16_at, number32_at, value_at, many_at, counted_at, whole}
use Rattle.pg_wire.specs.Rows.{value_by, rest_at, IsPlace, IsNoRow}
use Rattle.pg_wire.proofs.ListLaws.{row_says, row_none}
use Rattle.pg_wire.proofs.LoopLaws.{with_front, begins, goes_on, ends, is_done}
use Rattle.pg_wire.proofs.RowLaws.{read_place}

-- ---- the place behind a value

number_rest : (bytes : List ℕ) (n : ℕ) (rest : List ℕ) → Some (n, rest) ≡ number32_at bytes → (rest ≡ drop 4 bytes) × (length bytes ≡ length rest + 4)
unfolding number32_at
number_rest (a ∷ b ∷ c ∷ d ∷ bs) n rest e =
    let same : rest ≡ bs = ap (λ (x : ℕ × List ℕ). x.1) (same_Some _ _ e) in
    (same, omega (arith, ap (λ (xs : List ℕ). length xs) same))
number_rest [] n rest e = absurd cc
number_rest (a ∷ []) n rest e = absurd cc
number_rest (a ∷ b ∷ []) n rest e = absurd cc
number_rest (a ∷ b ∷ c ∷ []) n rest e = absurd cc

-- what is left behind the length
pub number_room : (body : List ℕ) (place n : ℕ) (rest : List ℕ) → place ≤ length body → Some (n, rest) ≡ number32_at (drop place body) → place + 4 + length rest ≡ length body
number_room body place n rest le e = omega (arith, le, length-drop place body, (number_rest (drop place body) n rest e).1)

pub behind_bytes : (body : List ℕ) (place n : ℕ) (rest : List ℕ) → length body < 2 ^ 31 → Some (n, rest) ≡ number32_at (drop place body) → n ≤ length rest → Some (drop (place + 4 + n) body) ≡ rest_at value_at (drop place body)
unfolding value_at
behind_bytes body place n rest told e le =
    let r = number_rest (drop place body) n rest e in
    let short : length rest < 2 ^ 31 = omega (arith, told, length-drop place body, r.1) in
    let other : eqb n (2 ^ 32 - 1) ≡ false = ne_eqb _ _ (λ x. absurd (omega (arith, x, le, short))) in
    let below : ltb n (2 ^ 31) ≡ true = lt-ltb _ _ (omega (arith, le, short)) in
    let room : leb n (length rest) ≡ true = le-leb _ _ le in
    let end : drop (place + 4 + n) body ≡ drop n rest = sym (drop-drop n (place + 4) body) ∙ ap (drop n) (sym (drop-drop 4 place body) ∙ sym r.0) in
    rw (← e, other, below, room) (ap (λ (xs : List ℕ). Some xs) end)

pub behind_null : (body : List ℕ) (place n : ℕ) (rest : List ℕ) → Some (n, rest) ≡ number32_at (drop place body) → n ≡ 2 ^ 32 - 1 → Some (drop (place + 4) body) ≡ rest_at value_at (drop place body)
unfolding value_at
behind_null body place n rest e is =
    let full : eqb n (2 ^ 32 - 1) ≡ true = ap (λ (k : ℕ). eqb k (2 ^ 32 - 1)) is in
    let end : drop (place + 4) body ≡ rest = sym (drop-drop 4 place body) ∙ sym (number_rest (drop place body) n rest e).0 in
    rw (← e, full) (ap (λ (xs : List ℕ). Some xs) end)

refused : (below : Bool) (x : Option (List ℕ) × List ℕ) → None ≡ option_map (λ (y : Option (List ℕ) × List ℕ). y.1) (cond (below && false) (Some x) None)
refused true x = refl
refused false x = refl

pub behind_none : (body : List ℕ) (place n : ℕ) (rest : List ℕ) → Some (n, rest) ≡ number32_at (drop place body) → length rest < n → (n ≡ 2 ^ 32 - 1 → ⊥) → None ≡ rest_at value_at (drop place body)
unfolding value_at
behind_none body place n rest e more not_null =
    let other : eqb n (2 ^ 32 - 1) ≡ false = ne_eqb _ _ not_null in
    let no_room : leb n (length rest) ≡ false = lt-leb _ _ more in
    rw (← e, other, no_room) (refused (ltb n (2 ^ 31)) (Some (take n rest), drop n rest))

pub behind_short : (body : List ℕ) (place : ℕ) → None ≡ number32_at (drop place body) → None ≡ rest_at value_at (drop place body)
unfolding value_at
behind_short body place e = rw (← e) refl

-- ---- places that are found one behind the other

pub record IsFinding (body : List ℕ) (count i : ℕ) (found : List ℕ) (place : ℕ) : Type 0 where
  pub value : with_front (map (value_by body) found) (many_at value_at (count - i) (drop place body)) ≡ many_at value_at count (drop 2 body)
  pub places : All (IsPlace body) found
  pub within : place ≤ length body

pub finding_begins : (body : List ℕ) (count : ℕ) → 2 ≤ length body → IsFinding body count 0 [] 2
finding_begins body count le = let all : count - 0 ≡ count = omega arith in record { value = rw all (begins (many_at value_at count (drop 2 body))); places = All-nil (IsPlace body); within = le }

some_rest : {A : Type 0} (read : Option (A × List ℕ)) (rest : List ℕ) → Some rest ≡ option_map (λ (x : A × List ℕ). x.1) read → (a : A) × (read ≡ Some (a, rest))
some_rest {A} (Some x) rest e = (x.0, ap (λ (r : List ℕ). Some (x.0, r)) (sym (same_Some rest x.1 e)))
some_rest None rest e = absurd cc

no_rest : {A : Type 0} (read : Option (A × List ℕ)) → None ≡ option_map (λ (x : A × List ℕ). x.1) read → read ≡ None
no_rest (Some x) e = absurd cc
no_rest None e = refl

pub finding_goes : (body : List ℕ) (count i : ℕ) (found : List ℕ) (place after : ℕ) → IsFinding body count i found place → i < count → after ≤ length body → Some (drop after body) ≡ rest_at value_at (drop place body) → IsFinding body count (i + 1) (found ++ place ∷ []) after
finding_goes body count i found place after f lt le e =
    let v = some_rest (value_at (drop place body)) (drop after body) e in
    let p = read_place body (drop place body) (drop after body) place v.0 f.within refl v.1 in
    record {
      value = rw (map_push (value_by body) found place, p.1) (goes_on value_at (map (value_by body) found) count i (drop place body) v.0 (drop after body) (many_at value_at count (drop 2 body)) lt v.1 f.value);
      places = All-push (IsPlace body) found place f.places p.0;
      within = le;
    }

pub finding_fails : (body : List ℕ) (count i : ℕ) (found : List ℕ) (place : ℕ) → IsFinding body count i found place → i < count → None ≡ rest_at value_at (drop place body) → None ≡ many_at value_at count (drop 2 body)
finding_fails body count i found place f lt e = ends value_at (map (value_by body) found) count i (drop place body) (many_at value_at count (drop 2 body)) lt (no_rest (value_at (drop place body)) e) f.value

pub finding_done : (body : List ℕ) (count i : ℕ) (found : List ℕ) (place : ℕ) → IsFinding body count i found place → count ≤ i → Some (map (value_by body) found, drop place body) ≡ many_at value_at count (drop 2 body)
finding_done body count i found place f le = is_done value_at (map (value_by body) found) count i (drop place body) (many_at value_at count (drop 2 body)) le f.value

-- ---- whether a body is one of a row, by the place behind its values

pub headed : (body : List ℕ) (count : ℕ) (rest : List ℕ) → Some (count, rest) ≡ number16_at body → number16_at body ≡ Some (count, drop 2 body)
unfolding number16_at
headed (a ∷ b ∷ bs) count rest e = ap (λ (n : ℕ). Some (n, bs)) (sym (ap (λ (x : ℕ × List ℕ). x.0) (same_Some _ _ e)))
headed [] count rest e = absurd cc
headed (a ∷ []) count rest e = absurd cc

pub headed_length : (body : List ℕ) (count : ℕ) (rest : List ℕ) → number16_at body ≡ Some (count, rest) → 2 ≤ length body
unfolding number16_at
headed_length (a ∷ b ∷ bs) count rest e = omega arith
headed_length [] count rest e = absurd cc
headed_length (a ∷ []) count rest e = absurd cc

whole_read : {A : Type 0} (item : Reader A) (body rest : List ℕ) (count : ℕ) (read : Option (List A × List ℕ)) → number16_at body ≡ Some (count, rest) → read ≡ many_at item count rest → whole (counted_at item) body ≡ (read >>= λ x. cond (eqb (length x.1) 0) (Some x.0) None)
unfolding whole counted_at
whole_read item body rest count read n e = rw (n, ← e) refl

pub row_found : (body : List ℕ) (count : ℕ) (found : List ℕ) (end : ℕ) → AreBytes body → number16_at body ≡ Some (count, drop 2 body) → Some (map (value_by body) found, drop end body) ≡ many_at value_at count (drop 2 body) → eqb end (length body) ≡ true → Says 68 body (DataRow (map (value_by body) found))
row_found body count found end bytes n e at =
    let nothing : length (drop end body) ≡ 0 = omega (arith, length-drop end body, eqb-true _ _ at) in
    row_says body (map (value_by body) found) bytes (whole_read value_at body (drop 2 body) count _ n e ∙ ap (λ (k : ℕ). cond (eqb k 0) (Some (map (value_by body) found)) None) nothing)

pub row_left : (body : List ℕ) (count : ℕ) (found : List ℕ) (end : ℕ) → end ≤ length body → number16_at body ≡ Some (count, drop 2 body) → Some (map (value_by body) found, drop end body) ≡ many_at value_at count (drop 2 body) → eqb end (length body) ≡ false → IsNoRow body
row_left body count found end le n e at =
    let more : eqb (length (drop end body)) 0 ≡ false = ne_eqb _ _ (λ z. eqb-false _ _ at (omega (arith, length-drop end body, z, le))) in
    row_none body (whole_read value_at body (drop 2 body) count _ n e ∙ ap (λ (b : Bool). cond b (Some (map (value_by body) found)) None) more)

pub row_unread : (body : List ℕ) (count : ℕ) → number16_at body ≡ Some (count, drop 2 body) → None ≡ many_at value_at count (drop 2 body) → IsNoRow body
row_unread body count n e = row_none body (whole_read value_at body (drop 2 body) count None n e)

unheaded : {A : Type 0} (item : Reader A) (body : List ℕ) → None ≡ number16_at body → whole (counted_at item) body ≡ None
unfolding whole counted_at
unheaded item body e = rw (← e) refl

pub row_unheaded : (body : List ℕ) → None ≡ number16_at body → IsNoRow body
row_unheaded body e = row_none body (unheaded value_at body e)
