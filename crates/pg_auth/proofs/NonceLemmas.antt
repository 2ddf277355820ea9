-- Words drawn from a generator, and the characters that they make.
use Rattle.std.proofs.Common.{◌≡◌, ℕ, zero, suc, ◌+◌, ◌-◌, ◌%◌, ◌<◌, ◌≤◌, true, List, [], ◌∷◌, ◌++◌, length, take, drop, get_or, set, map, refl, arith, sym, ◌∙◌, ap, subst}
use Rattle.std.proofs.lemmas.Grind.{common_steps}
use Rattle.std.proofs.lemmas.Bool.Decides.{nat_tests}
use Rattle.std.proofs.lemmas.List.{take_more_set, append_assoc, append-nil, take_all, length-map}
use Rattle.std.specs.List.{list_all}
use Rattle.std.proofs.lemmas.List.Sums.{AllPass-from_list_all, list_all-from_AllPass}
use Rattle.rand_core.specs.Stream.{Stream, next_u32}
use Rattle.pg_auth.specs.Nonce.{IsNonce, is_printable, ArePrintable, nonce_character, nonce_of, drawn, left_after}

pub nonce_of-first : (words : List ℕ) → 0 < length words → nonce_of words ≡ map nonce_character (take (64 + get_or words 0 0 % 64) (drop 1 words))
unfolding nonce_of
nonce_of-first [] some = absurd (omega arith)
nonce_of-first (w ∷ words) some = refl

character_printable : (w : ℕ) → is_printable (nonce_character w) ≡ true
unfolding nonce_character
character_printable w =
    let small : w % 93 < 93 = omega arith in
    grind (arith, nat_tests)

pub characters_printable : (words : List ℕ) → ArePrintable (map nonce_character words)
characters_printable [] k d lt = absurd (omega arith)
characters_printable (w ∷ words) zero d lt = character_printable w
characters_printable (w ∷ words) (suc k) d lt = characters_printable words k d (omega arith)

drawn-next : (n m : ℕ) (s : Stream) → n ≡ suc m → drawn n s ≡ (next_u32 s).0 ∷ drawn m (next_u32 s).1
unfolding drawn
drawn-next n m s e = rw e refl

left_after-next : (n m : ℕ) (s : Stream) → n ≡ suc m → left_after n s ≡ left_after m (next_u32 s).1
unfolding left_after
left_after-next n m s e = rw e refl

pub draws_more : (n : ℕ) (items : List ℕ) (i v : ℕ) (s t : Stream) → i < n → length items ≡ n → (v, t) ≡ next_u32 s
    → take (i + 1) (set items i v) ++ drawn (n - (i + 1)) t ≡ take i items ++ drawn (n - i) s
draws_more n items i v s t lt size next =
    let within : i < length items = omega arith in
    let one : n - i ≡ suc (n - (i + 1)) = omega arith in
    rw (take_more_set items i v within, drawn-next (n - i) (n - (i + 1)) s one, ← next, append_assoc) refl

pub leaves_less : (n i v : ℕ) (s t : Stream) → i < n → (v, t) ≡ next_u32 s → left_after (n - (i + 1)) t ≡ left_after (n - i) s
leaves_less n i v s t lt next =
    let one : n - i ≡ suc (n - (i + 1)) = omega arith in
    rw (left_after-next (n - i) (n - (i + 1)) s one, ← next) refl

pub all_drawn : (n : ℕ) (items : List ℕ) (i : ℕ) (s : Stream) → n ≤ i → length items ≤ i → take i items ++ drawn (n - i) s ≡ items
unfolding drawn
all_drawn n items i s past size =
    let none : n - i ≡ 0 = omega arith in
    rw (none, take_all i items size) (append-nil items)

pub none_left : (n i : ℕ) (s : Stream) → n ≤ i → left_after (n - i) s ≡ s
unfolding left_after
none_left n i s past =
    let none : n - i ≡ 0 = omega arith in
    rw none refl

-- what a loop over so many words has made of them
pub nonce_made : (words nonce : List ℕ) (i : ℕ) → length words ≡ 128 → length (take (64 + get_or words 0 0 % 64 + 1 - 1) (drop 1 words)) ≤ i
    → nonce ≡ map nonce_character (take i (take (64 + get_or words 0 0 % 64 + 1 - 1) (drop 1 words))) → nonce ≡ nonce_of words
nonce_made words nonce i size past made =
    let some : 0 < length words = omega arith in
    let count : 64 + get_or words 0 0 % 64 + 1 - 1 ≡ 64 + get_or words 0 0 % 64 = omega arith in
    made ∙ ap (map nonce_character) (take_all i (take (64 + get_or words 0 0 % 64 + 1 - 1) (drop 1 words)) past ∙ ap (λ (n : ℕ). take n (drop 1 words)) count) ∙ sym (nonce_of-first words some)

pub nonce_lawful : (words nonce : List ℕ) → length words ≡ 128 → nonce ≡ nonce_of words → IsNonce nonce
nonce_lawful words nonce size made =
    let some : 0 < length words = omega arith in
    let is : nonce ≡ map nonce_character (take (64 + get_or words 0 0 % 64) (drop 1 words)) = made ∙ nonce_of-first words some in
    let long : length nonce ≡ 64 + get_or words 0 0 % 64 = rw (is, length-map) (grind (arith, common_steps)) in
    let small : get_or words 0 0 % 64 < 64 = omega arith in
    record {
      some = omega arith;
      short = omega arith;
      printable = subst ArePrintable (sym is) (characters_printable (take (64 + get_or words 0 0 % 64) (drop 1 words)));
    }

-- what the test of a nonce says
pub is_nonce_by : (bytes : List ℕ) → 0 < length bytes → length bytes ≤ 127 → list_all is_printable bytes ≡ true → IsNonce bytes
is_nonce_by bytes some short all = record { some = some; short = short; printable = AllPass-from_list_all is_printable bytes all }

pub nonce_passes : (bytes : List ℕ) → IsNonce bytes → list_all is_printable bytes ≡ true
nonce_passes bytes is = list_all-from_AllPass is_printable bytes is.printable
