-- The number behind the last space of a command's tag.
use Rattle.std.proofs.Common.{◌≡◌, ◌≢◌, ℕ, zero, suc, ◌+◌, ◌*◌, ◌-◌, ◌<◌, ◌≤◌, ◌^◌, Bool, true, false, cond, not, ◌&&◌, ◌||◌, eqb, ltb, leb, List, [], ◌∷◌, length, take, drop, get_or, Some, None, refl, sym, ap, ◌∙◌, arith, ne_eqb, eq-eqb}
use Rattle.std.specs.Prelude.{slice_index, unwrap_or}
use Rattle.std.specs.Char.{is_ascii_digit, digit_value}
use Rattle.std.specs.List.{list_all, list_any, after_last, suffix_len}
use Rattle.std.specs.Str.Parse.{digits_value, digits_value_after}
use Rattle.std.proofs.lemmas.Bool.{ltb-true, leb-true, lt-ltb, le-ltb}
use Rattle.std.proofs.lemmas.List.Sums.{suffix_len_is}
use Rattle.std.proofs.lemmas.Str.Parse.{digits_value-take-le}
use Rattle.pg_wire.specs.Completion.{is_count, rows_affected}
use Rattle.pg_wire.specs.Reading.{count_after, count_in}
use Rattle.pg_wire.proofs.Tests.{both_true}

-- orders of numbers, which are quick to find where the numbers are variables
less_same : (a b m : ℕ) → a ≡ b → b < m → a < m
less_same a b m e lt = omega (arith, e, lt)

less_through : (a b c m : ℕ) → a ≡ b → b ≤ c → c < m → a < m
less_through a b c m e le lt = omega (arith, e, le, lt)

before_end : (start n : ℕ) → 0 < start → start ≤ n → start - 1 < n
before_end start n lt le = omega (arith, lt, le)

behind_front : (start n : ℕ) → start ≤ n → n - (n - start) ≡ start
behind_front start n le = omega (arith, le)

and_true : (b : Bool) → (b && true) ≡ b
and_true true = refl
and_true false = refl

and_assoc : (a b c : Bool) → (a && (b && c)) ≡ ((a && b) && c)
and_assoc true b c = refl
and_assoc false b c = refl

all_push : (p : ℕ → Bool) (xs : List ℕ) (i x : ℕ) → i < length xs → x ≡ get_or xs i x → list_all p (take (suc i) xs) ≡ (list_all p (take i xs) && p x)
all_push p [] i x lt e = absurd (omega (arith, lt))
all_push p (y ∷ xs) zero x lt e = and_true (p y) ∙ ap p (sym e)
all_push p (y ∷ xs) (suc i) x lt e = ap (λ (b : Bool). p y && b) (all_push p xs i x (omega (arith, lt)) e) ∙ and_assoc (p y) (list_all p (take i xs)) (p x)

value_push : (xs : List ℕ) (i n x : ℕ) → i < length xs → x ≡ get_or xs i x → digits_value_after 10 n (take (suc i) xs) ≡ digits_value_after 10 n (take i xs) * 10 + digit_value x
value_push [] i n x lt e = absurd (omega (arith, lt))
value_push (y ∷ xs) zero n x lt e = ap (λ (z : ℕ). n * 10 + digit_value z) (sym e)
value_push (y ∷ xs) (suc i) n x lt e = value_push xs i (n * 10 + digit_value y) x (omega (arith, lt)) e

all_front : (p : ℕ → Bool) (xs : List ℕ) (i : ℕ) → list_all p xs ≡ true → list_all p (take i xs) ≡ true
all_front p [] zero h = refl
all_front p [] (suc i) h = refl
all_front p (x ∷ xs) zero h = refl
all_front p (x ∷ xs) (suc i) h =
    let both = both_true (p x) (list_all p xs) h in
    ap (λ (b : Bool). b && list_all p (take i xs)) both.0 ∙ all_front p xs i both.1

pub digit_is : (b : ℕ) → is_ascii_digit b ≡ true → digit_value b ≡ b - 48
digit_is b h =
    let both = both_true (leb 48 b) (leb b 57) h in
    let low : 48 ≤ b = leb-true _ _ both.0 in
    let high : b ≤ 57 = leb-true _ _ both.1 in
    rw (le-ltb _ _ low, lt-ltb b 58 (omega (arith, high))) refl

-- the next digit, where it is one and there is room
next_is : (n x next : ℕ) → Some next ≡ count_after n x → (is_ascii_digit x ≡ true) × (next ≡ n * 10 + (x - 48)) × (next < 2 ^ 64)
next_is n x next e = taken (is_ascii_digit x) (ltb (n * 10 + (x - 48)) (2 ^ 64)) (n * 10 + (x - 48)) next e refl refl
  where
    taken : (a b : Bool) (v w : ℕ) → Some w ≡ cond (a && b) (Some v) None → a ≡ is_ascii_digit x → b ≡ ltb v (2 ^ 64) → (is_ascii_digit x ≡ true) × (w ≡ v) × (w < 2 ^ 64)
    taken true true v w e p q = let same : w ≡ v = cc in (sym p, same, less_same w v (2 ^ 64) same (ltb-true _ _ (sym q)))
    taken true false v w e p q = absurd cc
    taken false b v w e p q = absurd cc

pub count_goes : (text : List ℕ) (i n x next : ℕ) → i < length text → x ≡ get_or text i x → list_all is_ascii_digit (take i text) ≡ true → n ≡ digits_value 10 (take i text) → Some next ≡ count_after n x
    → (list_all is_ascii_digit (take (i + 1) text) ≡ true) × (next ≡ digits_value 10 (take (i + 1) text)) × (next < 2 ^ 64)
count_goes text i n x next lt e digits count given =
    let one : i + 1 ≡ suc i = omega arith in
    let t = next_is n x next given in
    rw one (
      all_push is_ascii_digit text i x lt e ∙ ap (λ (b : Bool). b && is_ascii_digit x) digits ∙ t.0,
      t.1 ∙ ap (λ (d : ℕ). n * 10 + d) (sym (digit_is x t.0)) ∙ ap (λ (m : ℕ). m * 10 + digit_value x) count ∙ sym (value_push text i 0 x lt e),
      t.2,
    )

unless : {A : Type 0} (b : Bool) (v : A) → (b ≡ true → ⊥) → None ≡ cond b (Some v) None
unless true v h = absurd (h refl)
unless false v h = refl

some_none : {A : Type 0} (b : Bool) (v : A) → b ≡ true → None ≡ cond b (Some v) None → ⊥
some_none true v h e = absurd cc
some_none false v h e = absurd cc

pub count_refused : (text : List ℕ) (i n x : ℕ) → i < length text → x ≡ get_or text i x → n ≡ digits_value 10 (take i text) → None ≡ count_after n x → None ≡ count_in text
count_refused text i n x lt e count given = unless (list_all is_ascii_digit text && ltb (digits_value 10 text) (2 ^ 64)) (digits_value 10 text) (λ h.
    let both = both_true _ _ h in
    let room : digits_value 10 text < 2 ^ 64 = ltb-true _ _ both.1 in
    let front : list_all is_ascii_digit (take (suc i) text) ≡ true = all_front is_ascii_digit text (suc i) both.0 in
    let digit : is_ascii_digit x ≡ true = (both_true _ _ (sym (all_push is_ascii_digit text i x lt e) ∙ front)).1 in
    let below = digits_value-take-le 10 text (suc i) (omega arith) in
    let pushed = value_push text i 0 x lt e in
    let same : n * 10 + (x - 48) ≡ digits_value 10 (take (suc i) text) = ap (λ (m : ℕ). m * 10 + (x - 48)) count ∙ ap (λ (d : ℕ). digits_value 10 (take i text) * 10 + d) (sym (digit_is x digit)) ∙ sym pushed in
    let fits : ltb (n * 10 + (x - 48)) (2 ^ 64) ≡ true = lt-ltb _ _ (less_through _ _ _ (2 ^ 64) same below room) in
    some_none (is_ascii_digit x && ltb (n * 10 + (x - 48)) (2 ^ 64)) (n * 10 + (x - 48)) (ap (λ (b : Bool). b && ltb (n * 10 + (x - 48)) (2 ^ 64)) digit ∙ fits) given)

take_all : (xs : List ℕ) (i : ℕ) → length xs ≤ i → take i xs ≡ xs
take_all [] zero h = refl
take_all [] (suc i) h = refl
take_all (x ∷ xs) zero h = absurd (omega (arith, h))
take_all (x ∷ xs) (suc i) h = ap (λ (ys : List ℕ). x ∷ ys) (take_all xs i (omega (arith, h)))

pub count_done : (text : List ℕ) (i n : ℕ) → length text ≤ i → list_all is_ascii_digit (take i text) ≡ true → n ≡ digits_value 10 (take i text) → n < 2 ^ 64 → Some n ≡ count_in text
count_done text i n le digits count room =
    let all : take i text ≡ text = take_all text i le in
    let digits' : list_all is_ascii_digit text ≡ true = ap (list_all is_ascii_digit) (sym all) ∙ digits in
    let count' : n ≡ digits_value 10 text = count ∙ ap (digits_value 10) all in
    let fits : ltb (digits_value 10 text) (2 ^ 64) ≡ true = lt-ltb _ _ (less_same _ _ (2 ^ 64) (sym count') room) in
    rw (digits', fits) (ap (λ (m : ℕ). Some m) count')

-- ---- the last space

none_at : (xs : List ℕ) → ((k : ℕ) → 0 ≤ k → k < length xs → slice_index xs k ≢ 32) → list_any (eqb 32) xs ≡ false
none_at [] h = refl
none_at (x ∷ xs) h =
    let one : eqb 32 x ≡ false = ne_eqb 32 x (λ e. h 0 (omega arith) (omega arith) (sym e)) in
    ap (λ (b : Bool). b || list_any (eqb 32) xs) one ∙ none_at xs (λ k le lt. h (suc k) (omega arith) (omega (arith, lt)))

or_true : (b : Bool) → (b || true) ≡ true
or_true true = refl
or_true false = refl

some_at : (xs : List ℕ) (k : ℕ) → k < length xs → slice_index xs k ≡ 32 → list_any (eqb 32) xs ≡ true
some_at [] k lt e = absurd (omega (arith, lt))
some_at (x ∷ xs) zero lt e = ap (λ (b : Bool). b || list_any (eqb 32) xs) (eq-eqb 32 x (sym e))
some_at (x ∷ xs) (suc k) lt e = ap (λ (b : Bool). eqb 32 x || b) (some_at xs k (omega (arith, lt)) e) ∙ or_true (eqb 32 x)

pub rows_none : (tag : List ℕ) → ((k : ℕ) → 0 ≤ k → k < length tag → slice_index tag k ≢ 32) → 0 ≡ rows_affected tag
rows_none tag h = rw (none_at tag h) refl

counts : (b : Bool) (v : ℕ) → unwrap_or (cond b (Some v) None) 0 ≡ cond b v 0
counts true v = refl
counts false v = refl

counted : (text : List ℕ) → unwrap_or (count_in text) 0 ≡ cond (is_count text) (digits_value 10 text) 0
counted [] = refl
counted (b ∷ bs) =
    let some : ltb 0 (length (b ∷ bs)) ≡ true = lt-ltb _ _ (omega arith) in
    counts (list_all is_ascii_digit (b ∷ bs) && ltb (digits_value 10 (b ∷ bs)) (2 ^ 64)) (digits_value 10 (b ∷ bs)) ∙ rw some refl

last_part : (tag : List ℕ) (start : ℕ) → 0 < start → start ≤ length tag → ((k : ℕ) → start ≤ k → k < length tag → slice_index tag k ≢ 32) → slice_index tag (start - 1) ≡ 32 → after_last (eqb 32) tag ≡ drop start tag
last_part tag start lt le word space =
    let len : suffix_len (λ x. not (eqb 32 x)) tag ≡ length tag - start = suffix_len_is (λ x. not (eqb 32 x)) tag start 0 le
    (λ k h j. ap not (ne_eqb 32 (get_or tag k 0) (λ e. word k h j (sym e))))
    (λ _. ap not (eq-eqb 32 (get_or tag (start - 1) 0) (sym space))) in
    let back : length tag - (length tag - start) ≡ start = behind_front start (length tag) le in
    ap (λ (n : ℕ). drop (length tag - n) tag) len ∙ ap (λ (n : ℕ). drop n tag) back

pub rows_found : (tag : List ℕ) (start : ℕ) → 0 < start → start ≤ length tag → ((k : ℕ) → start ≤ k → k < length tag → slice_index tag k ≢ 32) → slice_index tag (start - 1) ≡ 32 → unwrap_or (count_in (drop start tag)) 0 ≡ rows_affected tag
rows_found tag start lt le word space =
    let any : list_any (eqb 32) tag ≡ true = some_at tag (start - 1) (before_end start (length tag) lt le) space in
    let part : after_last (eqb 32) tag ≡ drop start tag = last_part tag start lt le word space in
    counted (drop start tag) ∙ ap (λ (text : List ℕ). cond (is_count text) (digits_value 10 text) 0) (sym part)
    ∙ ap (λ (b : Bool). cond (b && is_count (after_last (eqb 32) tag)) (digits_value 10 (after_last (eqb 32) tag)) 0) (sym any)

pub at_is : (xs : List ℕ) (i : ℕ) → i < length xs → get_or xs i 0 ≡ get_or xs i (get_or xs i 0)
at_is xs i lt = same_at xs i 0 (get_or xs i 0) lt
  where
    same_at : (ys : List ℕ) (k d e : ℕ) → k < length ys → get_or ys k d ≡ get_or ys k e
    same_at [] k d e h = absurd (omega (arith, h))
    same_at (y ∷ ys) zero d e h = refl
    same_at (y ∷ ys) (suc k) d e h = same_at ys k d e (omega (arith, h))
