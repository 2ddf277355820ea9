-- Reading a text from left to right, as the loops do.
use Rattle.std.proofs.Common.{◌≡◌, ℕ, zero, suc, ◌-◌, ◌+◌, ◌≤◌, ◌<◌, false, List, [], ◌∷◌, ◌++◌, length, take, drop, get_or, Option, Some, None, refl, sym, ap, ◌∙◌, append_assoc, append-nil, arith}
use Rattle.std.specs.Prelude.{IsTrue}
use Rattle.std.specs.List.{AllByRecursion}
use Rattle.pg_wire.specs.Reading.{◌>>=◌}
use Rattle.pg_wire.proofs.LoopLaws.{with_front}
use Rattle.pg_values.specs.declared.style.Style.{Style}
use Rattle.pg_values.specs.Texts.{is_plain}
use Rattle.pg_values.specs.TextReading.{character_at, quoted_at, plain_at, item_at, after_item, items_in}

abbrev Read : Type 0
Read = Option (List ℕ × List ℕ)

regroup : (front : List ℕ) (c : ℕ) (read : Read) → with_front front (read >>= λ x. Some (c ∷ x.0, x.1)) ≡ with_front (front ++ c ∷ []) read
regroup front c (Some x) = ap (λ (xs : List ℕ). Some (xs, x.1)) (simp append_assoc)
regroup front c None = refl

pub quoted_goes : (style : Style) (front : List ℕ) (count i : ℕ) (bytes : List ℕ) (c : ℕ) (after : List ℕ) (total : Read) → i < count → character_at style bytes ≡ Some (Some c, after)
    → with_front front (quoted_at style (count - i) bytes) ≡ total → with_front (front ++ c ∷ []) (quoted_at style (count - (i + 1)) after) ≡ total
unfolding quoted_at
quoted_goes style front count i bytes c after total lt h so_far =
    let k : count - i ≡ suc (count - (i + 1)) = omega arith in
    let one : with_front front (quoted_at style (count - i) bytes) ≡ with_front (front ++ c ∷ []) (quoted_at style (count - (i + 1)) after) = rw (k, h) (regroup front c (quoted_at style (count - (i + 1)) after)) in
    sym one ∙ so_far

pub quoted_stops : (style : Style) (front : List ℕ) (count i : ℕ) (bytes after : List ℕ) (total : Read) → i < count → character_at style bytes ≡ Some (None, after)
    → with_front front (quoted_at style (count - i) bytes) ≡ total → Some (front, after) ≡ total
unfolding quoted_at
quoted_stops style front count i bytes after total lt h so_far =
    let k : count - i ≡ suc (count - (i + 1)) = omega arith in
    let one : with_front front (quoted_at style (count - i) bytes) ≡ Some (front, after) = rw (k, h) (ap (λ (xs : List ℕ). Some (xs, after)) (append-nil front)) in
    sym one ∙ so_far

pub quoted_fails : (style : Style) (front : List ℕ) (count i : ℕ) (bytes : List ℕ) (total : Read) → i < count → character_at style bytes ≡ None
    → with_front front (quoted_at style (count - i) bytes) ≡ total → None ≡ total
unfolding quoted_at
quoted_fails style front count i bytes total lt h so_far =
    let k : count - i ≡ suc (count - (i + 1)) = omega arith in
    let one : with_front front (quoted_at style (count - i) bytes) ≡ None = rw (k, h) refl in
    sym one ∙ so_far

pub quoted_ends : (style : Style) (front : List ℕ) (count i : ℕ) (bytes : List ℕ) (total : Read) → count ≤ i → with_front front (quoted_at style (count - i) bytes) ≡ total → None ≡ total
unfolding quoted_at
quoted_ends style front count i bytes total le so_far =
    let k : count - i ≡ 0 = omega arith in
    let one : with_front front (quoted_at style (count - i) bytes) ≡ None = rw k refl in
    sym one ∙ so_far

-- ---- plain bytes

abbrev ArePlain : Style → List ℕ → Type 0
ArePlain style s = AllByRecursion (λ c. IsTrue (is_plain style c)) s

abbrev pair : List ℕ → List ℕ → List ℕ × List ℕ
pair a b = (a, b)

pub plain_stop : (style : Style) (bytes : List ℕ) (n : ℕ) → n < length bytes → ArePlain style (take n bytes) → is_plain style (get_or bytes n 0) ≡ false → pair (take n bytes) (drop n bytes) ≡ plain_at style bytes
unfolding plain_at
plain_stop style [] n lt h f = absurd (omega (arith, lt))
plain_stop style (b ∷ bs) zero lt h f = rw f refl
plain_stop style (b ∷ bs) (suc n) lt h f =
    let rest = plain_stop style bs n (omega (arith, lt)) h.1 f in
    rw (h.0, ← rest) refl

pub plain_end : (style : Style) (bytes : List ℕ) (n : ℕ) → length bytes ≤ n → ArePlain style (take n bytes) → pair (take n bytes) (drop n bytes) ≡ plain_at style bytes
unfolding plain_at
plain_end style [] zero le h = refl
plain_end style [] (suc n) le h = refl
plain_end style (b ∷ bs) zero le h = absurd (omega (arith, le))
plain_end style (b ∷ bs) (suc n) le h =
    let rest = plain_end style bs n (omega (arith, le)) h.1 in
    rw (h.0, ← rest) refl

-- ---- items

abbrev Items : Type 0
Items = Option (List (Option (List ℕ)))

abbrev pub with_items : List (Option (List ℕ)) → Items → Items
with_items front read = read >>= λ items. Some (front ++ items)

regroup_items : (front : List (Option (List ℕ))) (a : Option (List ℕ)) (read : Items) → with_items front (read >>= λ items. Some (a ∷ items)) ≡ with_items (front ++ a ∷ []) read
regroup_items front a (Some x) = ap (λ (xs : List (Option (List ℕ))). Some xs) (simp append_assoc)
regroup_items front a None = refl

pub items_begin : (read : Items) → with_items [] read ≡ read
items_begin (Some x) = refl
items_begin None = refl

pub items_go : (style : Style) (front : List (Option (List ℕ))) (count i : ℕ) (bytes : List ℕ) (a : Option (List ℕ)) (after more : List ℕ) (total : Items) → i < count → item_at style bytes ≡ Some (a, after) → after_item style after ≡ Some (Some more)
    → with_items front (items_in style (count - i) bytes) ≡ total → with_items (front ++ a ∷ []) (items_in style (count - (i + 1)) more) ≡ total
unfolding items_in
items_go style front count i bytes a after more total lt h f so_far =
    let k : count - i ≡ suc (count - (i + 1)) = omega arith in
    let one : with_items front (items_in style (count - i) bytes) ≡ with_items (front ++ a ∷ []) (items_in style (count - (i + 1)) more) = rw (k, h, f) (regroup_items front a (items_in style (count - (i + 1)) more)) in
    sym one ∙ so_far

pub items_stop : (style : Style) (front : List (Option (List ℕ))) (count i : ℕ) (bytes : List ℕ) (a : Option (List ℕ)) (after : List ℕ) (total : Items) → i < count → item_at style bytes ≡ Some (a, after) → after_item style after ≡ Some None
    → with_items front (items_in style (count - i) bytes) ≡ total → Some (front ++ a ∷ []) ≡ total
unfolding items_in
items_stop style front count i bytes a after total lt h f so_far =
    let k : count - i ≡ suc (count - (i + 1)) = omega arith in
    let one : with_items front (items_in style (count - i) bytes) ≡ Some (front ++ a ∷ []) = rw (k, h, f) refl in
    sym one ∙ so_far

pub items_break : (style : Style) (front : List (Option (List ℕ))) (count i : ℕ) (bytes : List ℕ) (a : Option (List ℕ)) (after : List ℕ) (total : Items) → i < count → item_at style bytes ≡ Some (a, after) → after_item style after ≡ None
    → with_items front (items_in style (count - i) bytes) ≡ total → None ≡ total
unfolding items_in
items_break style front count i bytes a after total lt h f so_far =
    let k : count - i ≡ suc (count - (i + 1)) = omega arith in
    let one : with_items front (items_in style (count - i) bytes) ≡ None = rw (k, h, f) refl in
    sym one ∙ so_far

pub items_fail : (style : Style) (front : List (Option (List ℕ))) (count i : ℕ) (bytes : List ℕ) (total : Items) → i < count → item_at style bytes ≡ None
    → with_items front (items_in style (count - i) bytes) ≡ total → None ≡ total
unfolding items_in
items_fail style front count i bytes total lt h so_far =
    let k : count - i ≡ suc (count - (i + 1)) = omega arith in
    let one : with_items front (items_in style (count - i) bytes) ≡ None = rw (k, h) refl in
    sym one ∙ so_far

pub items_end : (style : Style) (front : List (Option (List ℕ))) (count i : ℕ) (bytes : List ℕ) (total : Items) → count ≤ i → with_items front (items_in style (count - i) bytes) ≡ total → None ≡ total
unfolding items_in
items_end style front count i bytes total le so_far =
    let k : count - i ≡ 0 = omega arith in
    let one : with_items front (items_in style (count - i) bytes) ≡ None = rw k refl in
    sym one ∙ so_far
