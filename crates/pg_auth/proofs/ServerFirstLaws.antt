-- What is read of a server-first-message is what the grammar says, and nothing else is.
use Rattle.std.proofs.Common.{◌≡◌, ℕ, zero, suc, if◌then◌else◌, ◌+◌, ◌-◌, ◌*◌, ◌<◌, ◌^◌, ◌⊎◌, inl, inr, Bool, true, false, nat_eq, nat_lt, nat_le, List, [], ◌∷◌, ◌++◌, length, replicate, slice_index, codes, Option, Some, None, Result, Ok, Err, refl, arith, sym, ◌∙◌, ap, subst}
use Rattle.std.specs.Prelude.{not, cond, ◌&&◌, ◌/◌, ◌%◌}
use Rattle.std.specs.List.{AllByRecursion, AllPass, list_all}
use Rattle.std.specs.Result.{result_ok}
use Rattle.std.specs.Char.{is_ascii_digit}
use Rattle.std.specs.Str.Parse.{digits_value_after}
use Rattle.std.proofs.lemmas.List.{append_assoc, append-nil}
use Rattle.std.proofs.lemmas.List.Sums.{AllPass-from_list_all, list_all-from_AllPass}
use Rattle.std.proofs.lemmas.Bool.Decides.{nat_tests}
use Rattle.base64.specs.Engines.{standard}
use Rattle.base64.specs.Rfc4648.{encode_symbols, encode_group, padding_len}
use Rattle.base64.specs.GeneralPurpose.{IsBytes, decode_of, encode_of}
use Rattle.base64.proofs.EngineFacts.{decode_of_strict, decode_of-encode_of, front_bytes}
use Rattle.pg_auth.specs.Nonce.{is_printable, ArePrintable}
use Rattle.pg_auth.specs.Scram.{ServerFirst, IsServerFirst, IsCount, AreExtensions}
use Rattle.pg_auth.specs.Reading.{◌>>=◌, before_comma, behind_comma, attribute_at, digits_after, count_at, are_printable, salt_at, fields_at, said, server_first_at}
use Rattle.pg_wire.proofs.Tests.{both_true, negated, guarded}
use Rattle.std.proofs.lemmas.Option.{cond_some, same_Some}
use Rattle.pg_wire.proofs.ReaderLaws.{bind_some}
use Rattle.pg_wire.proofs.CompletionLaws.{digit_is}

-- ---- no comma

abbrev HasNone : List ℕ → Type 0
HasNone x = AllByRecursion (λ b. nat_eq b 44 ≡ false) x

HasNone-append : (x y : List ℕ) → HasNone x → HasNone y → HasNone (x ++ y)
HasNone-append [] y h k = k
HasNone-append (b ∷ x) y h k = (h.0, HasNone-append x y h.1 k)

not_comma : (b : ℕ) → is_printable b ≡ true → nat_eq b 44 ≡ false
not_comma b e = grind (arith, nat_tests)

HasNone-printable : (x : List ℕ) → ArePrintable x → HasNone x
HasNone-printable [] h = tt
HasNone-printable (b ∷ x) h = (not_comma b (h 0 0 (omega arith)), HasNone-printable x (λ k d lt. h (suc k) d (omega arith)))

digit_not_comma : (b : ℕ) → is_ascii_digit b ≡ true → nat_eq b 44 ≡ false
digit_not_comma b e = grind (arith, nat_tests)

HasNone-digits : (x : List ℕ) → AllPass is_ascii_digit x → HasNone x
HasNone-digits [] h = tt
HasNone-digits (b ∷ x) h = (digit_not_comma b (h 0 0 (omega arith)), HasNone-digits x (λ k d lt. h (suc k) d (omega arith)))

index_passes : (p : ℕ → Bool) (xs : List ℕ) → list_all p xs ≡ true → p 0 ≡ true → (k : ℕ) → p (slice_index xs k) ≡ true
index_passes p [] all z k = z
index_passes p (x ∷ xs) all z zero = (both_true (p x) (list_all p xs) all).0
index_passes p (x ∷ xs) all z (suc k) = index_passes p xs (both_true (p x) (list_all p xs) all).1 z k

no_symbol : (k : ℕ) → nat_eq (slice_index standard.encode_table k) 44 ≡ false
no_symbol k = negated (nat_eq (slice_index standard.encode_table k) 44) (index_passes (λ b. not (nat_eq b 44)) standard.encode_table refl refl k)

HasNone-symbols : (t m : List ℕ) → ((k : ℕ) → nat_eq (slice_index t k) 44 ≡ false) → HasNone (encode_symbols t m)
unfolding encode_symbols
HasNone-symbols t [] h = tt
HasNone-symbols t (a ∷ []) h = (h (a / 4), (h (a % 4 * 16), tt))
HasNone-symbols t (a ∷ b ∷ []) h = (h (a / 4), (h (a % 4 * 16 + b / 16), (h (b % 16 * 4), tt)))
HasNone-symbols t (a ∷ b ∷ c ∷ rest) h = HasNone-append (encode_group t a b c) (encode_symbols t rest) (h (a / 4), (h (a % 4 * 16 + b / 16), (h (b % 16 * 4 + c / 64), (h (c % 64), tt)))) (HasNone-symbols t rest h)

HasNone-padding : (n : ℕ) → HasNone (replicate n 61)
HasNone-padding zero = tt
HasNone-padding (suc n) = (refl, HasNone-padding n)

HasNone-base64 : (m : List ℕ) → HasNone (encode_of standard m)
HasNone-base64 m = HasNone-append (encode_symbols standard.encode_table m) (replicate (padding_len (length m)) 61) (HasNone-symbols standard.encode_table m no_symbol) (HasNone-padding (padding_len (length m)))

-- ---- up to a comma

before_front : (x rest : List ℕ) → HasNone x → before_comma (x ++ 44 ∷ rest) ≡ x
unfolding before_comma
before_front [] rest h = refl
before_front (b ∷ x) rest h = rw h.0 (ap (λ (y : List ℕ). b ∷ y) (before_front x rest h.1))

behind_front : (x rest : List ℕ) → HasNone x → behind_comma (x ++ 44 ∷ rest) ≡ rest
unfolding behind_comma
behind_front [] rest h = refl
behind_front (b ∷ x) rest h = rw h.0 (behind_front x rest h.1)

before_whole : (x : List ℕ) → HasNone x → before_comma x ≡ x
unfolding before_comma
before_whole [] h = refl
before_whole (b ∷ x) h = rw h.0 (ap (λ (y : List ℕ). b ∷ y) (before_whole x h.1))

-- a text is what stands before its comma and behind it
abbrev Ends : List ℕ → List ℕ → Type 0
Ends tail rest = ((tail ≡ []) × (rest ≡ [])) ⊎ (tail ≡ 44 ∷ rest)

abbrev Splits : List ℕ → Type 0
Splits text = (tail : List ℕ) × (text ≡ before_comma text ++ tail) × Ends tail (behind_comma text)

split_by : (b : ℕ) (text : List ℕ) (t : Bool) → nat_eq b 44 ≡ t → Splits text → Splits (b ∷ text)
unfolding before_comma behind_comma
split_by b text true e s = let is : b ≡ 44 = grind (arith, nat_tests) in (44 ∷ text, rw (e, is) refl, rw e (inr refl))
split_by b text false e s = (s.0, rw e (ap (λ (y : List ℕ). b ∷ y) s.1), rw e s.2)

splits : (text : List ℕ) → Splits text
unfolding before_comma behind_comma
splits [] = ([], refl, inl (refl, refl))
splits (b ∷ text) = split_by b text (nat_eq b 44) refl (splits text)

-- ---- attributes

attribute_is : (name : ℕ) (text value rest : List ℕ) → attribute_at name text ≡ Some (value, rest)
    → (tail : List ℕ) × (text ≡ name ∷ 61 ∷ value ++ tail) × Ends tail rest
unfolding attribute_at
attribute_is name [] value rest e = absurd cc
attribute_is name (n ∷ []) value rest e = absurd cc
attribute_is name (n ∷ sign ∷ text) value rest e =
    let taken = cond_some (nat_eq n name && nat_eq sign 61) (before_comma text, behind_comma text) (value, rest) e in
    let tests = both_true (nat_eq n name) (nat_eq sign 61) taken.0 in
    let named : n ≡ name = grind (arith, nat_tests, tests.0) in
    let signed : sign ≡ 61 = grind (arith, nat_tests, tests.1) in
    let s = splits text in
    let before : before_comma text ≡ value = ap (λ (p : List ℕ × List ℕ). p.0) taken.1 in
    let behind : behind_comma text ≡ rest = ap (λ (p : List ℕ × List ℕ). p.1) taken.1 in
    (s.0, rw (named, signed) (ap (λ (y : List ℕ). name ∷ 61 ∷ y) (rw before at s.1)), rw behind at s.2)

same : (n : ℕ) → nat_eq n n ≡ true
same n = grind (arith, nat_tests)

attribute_front : (name : ℕ) (value rest : List ℕ) → HasNone value → attribute_at name (name ∷ 61 ∷ value ++ 44 ∷ rest) ≡ Some (value, rest)
unfolding attribute_at
attribute_front name value rest h = rw (same name, before_front value rest h, behind_front value rest h) refl

attribute_last : (name : ℕ) (value tail : List ℕ) → HasNone value → AreExtensions tail → (rest : List ℕ) × (attribute_at name (name ∷ 61 ∷ value ++ tail) ≡ Some (value, rest))
unfolding attribute_at
attribute_last name value tail h (inl e) = (behind_comma value, rw (e, append-nil value, same name, before_whole value h) refl)
attribute_last name value tail h (inr e) = (e.0, rw e.1 (attribute_front name value e.0 h))

-- ---- fields

printable_is : (text nonce : List ℕ) → are_printable text ≡ Some nonce → (text ≡ nonce) × (0 < length text) × ArePrintable text
unfolding are_printable
printable_is text nonce e =
    let taken = cond_some (nat_lt 0 (length text) && list_all is_printable text) text nonce e in
    let tests = both_true (nat_lt 0 (length text)) (list_all is_printable text) taken.0 in
    let some : 0 < length text = grind (arith, nat_tests, tests.0) in
    (taken.1, some, AllPass-from_list_all is_printable text tests.1)

printable_of : (nonce : List ℕ) → 0 < length nonce → ArePrintable nonce → are_printable nonce ≡ Some nonce
unfolding are_printable
printable_of nonce some all =
    let test : nat_lt 0 (length nonce) ≡ true = grind (arith, nat_tests) in
    rw (test, list_all-from_AllPass is_printable nonce all) refl

digits_by : (n b m : ℕ) (rest : List ℕ) (t : Bool) → is_ascii_digit b ≡ t → cond t (digits_after (n * 10 + (b - 48)) rest) None ≡ Some m → (is_ascii_digit b ≡ true) × (digits_after (n * 10 + (b - 48)) rest ≡ Some m)
digits_by n b m rest true t e = (t, e)
digits_by n b m rest false t e = absurd cc

digits_is : (n : ℕ) (ds : List ℕ) (m : ℕ) → digits_after n ds ≡ Some m → (list_all is_ascii_digit ds ≡ true) × (digits_value_after 10 n ds ≡ m)
digits_is n [] m e = (refl, cc)
digits_is n (b ∷ ds) m e =
    let first = digits_by n b m ds (is_ascii_digit b) refl e in
    let others = digits_is (n * 10 + (b - 48)) ds m first.1 in
    (rw (first.0, others.0) refl, rw (digit_is b first.0) others.1)

digits_of : (n : ℕ) (ds : List ℕ) → list_all is_ascii_digit ds ≡ true → digits_after n ds ≡ Some (digits_value_after 10 n ds)
digits_of n [] all = refl
digits_of n (b ∷ ds) all =
    let both = both_true (is_ascii_digit b) (list_all is_ascii_digit ds) all in
    rw (both.0, digit_is b both.0) (digits_of (n * 10 + (b - 48)) ds both.1)

count_is : (ds : List ℕ) (n : ℕ) → count_at ds ≡ Some n → IsCount ds n
unfolding count_at
count_is ds n e =
    let sized = guarded (nat_lt 0 (length ds) && nat_le (length ds) 10) (digits_after 0 ds >>= λ m. if nat_lt m (2 ^ 32) then Some m else None) n e in
    let sizes = both_true (nat_lt 0 (length ds)) (nat_le (length ds) 10) sized.0 in
    let read = bind_some (digits_after 0 ds) (λ m. if nat_lt m (2 ^ 32) then Some m else None) n sized.1 in
    let small = cond_some (nat_lt read.0 (2 ^ 32)) read.0 n read.2 in
    let digits = digits_is 0 ds read.0 read.1 in
    let fits : read.0 < 2 ^ 32 = grind (arith, nat_tests, small.0) in
    record {
      some = grind (arith, nat_tests, sizes.0);
      short = grind (arith, nat_tests, sizes.1);
      decimal = AllPass-from_list_all is_ascii_digit ds digits.0;
      value = digits.1 ∙ small.1;
      fits = rw small.1 at fits;
    }

count_of : (ds : List ℕ) (n : ℕ) → IsCount ds n → count_at ds ≡ Some n
unfolding count_at
count_of ds n is =
    let some : nat_lt 0 (length ds) ≡ true = grind (arith, nat_tests, is.some) in
    let short : nat_le (length ds) 10 ≡ true = grind (arith, nat_tests, is.short) in
    let fits : nat_lt n (2 ^ 32) ≡ true = grind (arith, nat_tests, is.fits) in
    rw (some, short, digits_of 0 ds (list_all-from_AllPass is_ascii_digit ds is.decimal), is.value, fits) refl

ok_is : {A E : Type 0} (r : Result A E) (x : A) → result_ok r ≡ Some x → r ≡ Ok x
ok_is (Ok y) x e = ap Ok (same_Some y x e)
ok_is (Err f) x e = absurd cc

back_bytes : (a b : List ℕ) → IsBytes (a ++ b) → IsBytes b
back_bytes [] b h i = h i
back_bytes (x ∷ a) b h i = back_bytes a b (λ k. h (suc k)) i

salt_is : (text salt : List ℕ) → IsBytes text → salt_at text ≡ Some salt → text ≡ encode_of standard salt
unfolding salt_at
salt_is text salt bytes e = decode_of_strict standard text salt (refl, refl) bytes (ok_is (decode_of standard text) salt e)

salt_of : (salt : List ℕ) → IsBytes salt → salt_at (encode_of standard salt) ≡ Some salt
unfolding salt_at
salt_of salt bytes = ap result_ok (decode_of-encode_of standard salt refl bytes)

-- ---- the whole message

spelling : (n s d t : List ℕ) → 114 ∷ 61 ∷ n ++ (44 ∷ (115 ∷ 61 ∷ s ++ (44 ∷ (105 ∷ 61 ∷ d ++ t)))) ≡ codes "r=" ++ n ++ codes ",s=" ++ s ++ codes ",i=" ++ d ++ t
spelling n s d t = simp append_assoc

nil_cons : (more : List ℕ) (x : ℕ) → ◌≡◌ {A = List ℕ} [] (x ∷ more) → ⊥
nil_cons more x e = cc

goes : (tail rest more : List ℕ) (x : ℕ) → Ends tail rest → rest ≡ x ∷ more → tail ≡ 44 ∷ rest
goes tail rest more x (inl e) h = absurd (nil_cons more x (sym e.1 ∙ h))
goes tail rest more x (inr e) h = e

extensions : (tail rest : List ℕ) → Ends tail rest → AreExtensions tail
extensions tail rest (inl e) = inl e.0
extensions tail rest (inr e) = inr (rest, e)

record Fields (text nonce salt : List ℕ) (rounds : ℕ) : Type 0 where
  digits : List ℕ
  tail : List ℕ
  spelled : text ≡ 114 ∷ 61 ∷ nonce ++ (44 ∷ (115 ∷ 61 ∷ salt ++ (44 ∷ (105 ∷ 61 ∷ digits ++ tail))))
  some : 0 < length nonce
  printable : ArePrintable nonce
  count : IsCount digits rounds
  ends : AreExtensions tail

fields_from : (text : List ℕ) (r s i : List ℕ × List ℕ) (n : List ℕ) (c : ℕ)
    → attribute_at 114 text ≡ Some r → attribute_at 115 r.1 ≡ Some s → attribute_at 105 s.1 ≡ Some i → are_printable r.0 ≡ Some n → count_at i.0 ≡ Some c
    → Fields text n s.0 c
fields_from text r s i n c er es ei en ec =
    let a = attribute_is 114 text r.0 r.1 er in
    let b = attribute_is 115 r.1 s.0 s.1 es in
    let d = attribute_is 105 s.1 i.0 i.1 ei in
    let ra : a.0 ≡ 44 ∷ r.1 = goes a.0 r.1 (61 ∷ s.0 ++ b.0) 115 a.2 b.1 in
    let sb : b.0 ≡ 44 ∷ s.1 = goes b.0 s.1 (61 ∷ i.0 ++ d.0) 105 b.2 d.1 in
    let p = printable_is r.0 n en in
    subst (λ (x : List ℕ). Fields text x s.0 c) p.0 (record {
      digits = i.0;
      tail = d.0;
      spelled = a.1 ∙ ap (λ (y : List ℕ). 114 ∷ 61 ∷ r.0 ++ y) (ra ∙ ap (λ (y : List ℕ). 44 ∷ y) (b.1 ∙ ap (λ (y : List ℕ). 115 ∷ 61 ∷ s.0 ++ y) (sb ∙ ap (λ (y : List ℕ). 44 ∷ y) d.1)));
      some = p.1;
      printable = p.2;
      count = count_is i.0 c ec;
      ends = extensions d.0 i.1 d.2;
    })

fields_are : (text : List ℕ) (f : List ℕ × List ℕ × ℕ) → fields_at text ≡ Some f → Fields text f.0 f.1 f.2
unfolding fields_at
fields_are text f e =
    let r = bind_some (attribute_at 114 text) _ f e in
    let s = bind_some (attribute_at 115 r.0.1) _ f r.2 in
    let i = bind_some (attribute_at 105 s.0.1) _ f s.2 in
    let n = bind_some (are_printable r.0.0) _ f i.2 in
    let c = bind_some (count_at i.0.0) _ f n.2 in
    subst (λ (t : List ℕ × List ℕ × ℕ). Fields text t.0 t.1 t.2) (same_Some (n.0, s.0.0, c.0) f c.2) (fields_from text r.0 s.0 i.0 n.0 c.0 r.1 s.1 i.1 n.1 c.1)

bytes_inside : (n s t : List ℕ) → IsBytes (114 ∷ 61 ∷ n ++ (44 ∷ (115 ∷ 61 ∷ s ++ t))) → IsBytes s
bytes_inside n s t h = front_bytes s t (λ k. back_bytes n (44 ∷ (115 ∷ 61 ∷ s ++ t)) (λ i. h (suc (suc i))) (suc (suc (suc k))))

server_first_from : (text : List ℕ) (m : ServerFirst) (f : List ℕ × List ℕ × ℕ) (salt : List ℕ) → IsBytes text → IsBytes m.salt
    → fields_at text ≡ Some f → salt_at f.1 ≡ Some salt → said f.0 salt f.2 ≡ m → IsServerFirst text m
server_first_from text m f salt bytes all ef es same =
    let fields = fields_are text f ef in
    let inside : IsBytes f.1 = bytes_inside f.0 f.1 (44 ∷ (105 ∷ 61 ∷ fields.digits ++ fields.tail)) (subst IsBytes fields.spelled bytes) in
    let is : f.1 ≡ encode_of standard salt = salt_is f.1 salt inside es in
    subst (IsServerFirst text) same (record {
      digits = fields.digits;
      rest = fields.tail;
      spelled = fields.spelled ∙ spelling f.0 f.1 fields.digits fields.tail ∙ ap (λ (x : List ℕ). codes "r=" ++ f.0 ++ codes ",s=" ++ x ++ codes ",i=" ++ fields.digits ++ fields.tail) is;
      some = fields.some;
      printable = fields.printable;
      salt = subst IsBytes (sym (ap (λ (x : ServerFirst). x.salt) same)) all;
      count = fields.count;
      extensions = fields.ends;
    })

pub server_first_is : (text : List ℕ) (m : ServerFirst) → IsBytes text → IsBytes m.salt → server_first_at text ≡ Some m → IsServerFirst text m
unfolding server_first_at
server_first_is text m bytes all e =
    let f = bind_some (fields_at text) _ m e in
    let s = bind_some (salt_at f.0.1) _ m f.2 in
    server_first_from text m f.0 s.0 bytes all f.1 s.1 (same_Some (said f.0.0 s.0 f.0.2) m s.2)

pub server_first_of : (text : List ℕ) (m : ServerFirst) → IsServerFirst text m → server_first_at text ≡ Some m
unfolding server_first_at fields_at
server_first_of text m is =
    let last = attribute_last 105 is.digits is.rest (HasNone-digits is.digits is.count.decimal) is.extensions in
    rw (
      is.spelled,
      ← spelling m.nonce (encode_of standard m.salt) is.digits is.rest,
      attribute_front 114 m.nonce (115 ∷ 61 ∷ encode_of standard m.salt ++ (44 ∷ (105 ∷ 61 ∷ is.digits ++ is.rest))) (HasNone-printable m.nonce is.printable),
      attribute_front 115 (encode_of standard m.salt) (105 ∷ 61 ∷ is.digits ++ is.rest) (HasNone-base64 m.salt),
      last.1,
      printable_of m.nonce is.some is.printable,
      count_of is.digits m.rounds is.count,
      salt_of m.salt is.salt,
    ) refl

none_some : {A : Type 0} (o : Option A) (x : A) → None ≡ o → o ≡ Some x → ⊥
none_some o x a b = cc

pub no_server_first : (text : List ℕ) → None ≡ server_first_at text → (m : ServerFirst) → IsServerFirst text m → ⊥
no_server_first text none m is = none_some (server_first_at text) m none (server_first_of text m is)

-- a text is read in one way
pub one_reading : (text : List ℕ) (m n : ServerFirst) → IsServerFirst text m → IsServerFirst text n → m ≡ n
one_reading text m n a b = same_Some m n (sym (server_first_of text m a) ∙ server_first_of text n b)
