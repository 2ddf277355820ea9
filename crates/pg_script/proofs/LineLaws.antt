-- A text and its lines.
use Rattle.std.proofs.Common.{ℕ, zero, suc, ◌≡◌, ◌<◌, List, [], ◌∷◌, ◌++◌, Bool, true, false, cond, nat_eq, length, take, drop, refl, ap, ◌∙◌, arith}
use Rattle.std.specs.List.{list_any}
use Rattle.std.proofs.lemmas.List.{take_all, drop_all}
use Rattle.std.proofs.lemmas.Bool.{eqb-true}
use Rattle.std.proofs.lemmas.Bool.Decides.{nat_tests}
use Rattle.memchr.specs.Find.{Passes, Nowhere, is_byte}
use Rattle.pg_script.specs.Scripts.{onto_first, lines_of, lines_behind}
use Rattle.pg_script.specs.Grammar.{AreLines}
use Rattle.pg_wire.proofs.Tests.{neither_true, not_true}

-- ---- where the first line ends

no_feed_first : (b : ℕ) (bs : List ℕ) (n : ℕ) → Nowhere (Passes (is_byte 10) (b ∷ bs)) 0 (suc n) → nat_eq b 10 ≡ false
no_feed_first b bs n h = not_true (nat_eq b 10) (λ e. h 0 (omega arith) (omega arith) e)

no_feed_behind : (b : ℕ) (bs : List ℕ) (n : ℕ) → Nowhere (Passes (is_byte 10) (b ∷ bs)) 0 (suc n) → Nowhere (Passes (is_byte 10) bs) 0 n
no_feed_behind b bs n h = λ k le lt p. h (suc k) (omega arith) (omega (arith, lt)) p

pub cut_at : (n : ℕ) (text : List ℕ) → n < length text → Nowhere (Passes (is_byte 10) text) 0 n → Passes (is_byte 10) text n → lines_of text ≡ take n text ∷ lines_behind (drop n text)
cut_at n [] lt h p = absurd (omega (arith, lt))
cut_at zero (b ∷ bs) lt h p = rw p refl
cut_at (suc n) (b ∷ bs) lt h p = rw (no_feed_first b bs n h) (ap (onto_first b) (cut_at n bs (omega (arith, lt)) (no_feed_behind b bs n h) p))

uncut : (text : List ℕ) → Nowhere (Passes (is_byte 10) text) 0 (length text) → lines_of text ≡ text ∷ []
uncut [] h = refl
uncut (b ∷ bs) h = rw (no_feed_first b bs (length bs) h) (ap (onto_first b) (uncut bs (no_feed_behind b bs (length bs) h)))

pub uncut_all : (text : List ℕ) → Nowhere (Passes (is_byte 10) text) 0 (length text) → lines_of text ≡ take (length text) text ∷ lines_behind (drop (length text) text)
uncut_all text h =
    let front = take_all (length text) text (omega arith) in
    let back = drop_all (length text) text (omega arith) in
    rw (front, back) (uncut text h)

-- ---- the lines joined again are the text

empty_first : (ls : List (List ℕ)) (text rest : List ℕ) → text ≡ 10 ∷ rest → AreLines ls rest → AreLines ([] ∷ ls) text
empty_first [] text rest e h = absurd h
empty_first (k ∷ ls) text rest e h = (refl, (rest, e, h))

longer_first : (b : ℕ) (ls : List (List ℕ)) (text : List ℕ) → nat_eq 10 b ≡ false → AreLines ls text → AreLines (onto_first b ls) (b ∷ text)
longer_first b [] text n h = absurd h
longer_first b (l ∷ []) text n h = (rw n h.0, ap (λ (t : List ℕ). b ∷ t) h.1)
longer_first b (l ∷ k ∷ ls) text n h = (rw n h.0, (h.1.0, ap (λ (t : List ℕ). b ∷ t) h.1.1, h.1.2))

other_way : (b : ℕ) → nat_eq b 10 ≡ false → nat_eq 10 b ≡ false
other_way b e = grind (arith, nat_tests)

lines_step : (b : ℕ) (bs : List ℕ) (feed : Bool) → nat_eq b 10 ≡ feed → AreLines (lines_of bs) bs → AreLines (cond feed ([] ∷ lines_of bs) (onto_first b (lines_of bs))) (b ∷ bs)
lines_step b bs true e h = empty_first (lines_of bs) (b ∷ bs) bs (ap (λ (n : ℕ). n ∷ bs) (eqb-true b 10 e)) h
lines_step b bs false e h = longer_first b (lines_of bs) bs (other_way b e) h

pub lines_are : (text : List ℕ) → AreLines (lines_of text) text
lines_are [] = (refl, refl)
lines_are (b ∷ bs) = lines_step b bs (nat_eq b 10) refl (lines_are bs)

-- ---- and a text has no other lines

no_feed : (b : ℕ) (bs : List ℕ) → nat_eq 10 b ≡ false → lines_of (b ∷ bs) ≡ onto_first b (lines_of bs)
no_feed b bs n = let m : nat_eq b 10 ≡ false = grind (arith, nat_tests) in rw m refl

last_line : (l : List ℕ) → list_any (nat_eq 10) l ≡ false → lines_of l ≡ l ∷ []
last_line [] n = refl
last_line (b ∷ l) n =
    let m = neither_true (nat_eq 10 b) (list_any (nat_eq 10) l) n in
    no_feed b l m.0 ∙ ap (onto_first b) (last_line l m.1)

first_line : (l rest : List ℕ) → list_any (nat_eq 10) l ≡ false → lines_of (l ++ 10 ∷ rest) ≡ l ∷ lines_of rest
first_line [] rest n = refl
first_line (b ∷ l) rest n =
    let m = neither_true (nat_eq 10 b) (list_any (nat_eq 10) l) n in
    no_feed b (l ++ 10 ∷ rest) m.0 ∙ ap (onto_first b) (first_line l rest m.1)

pub lines_again : (ls : List (List ℕ)) (text : List ℕ) → AreLines ls text → lines_of text ≡ ls
lines_again [] text h = absurd h
lines_again (l ∷ []) text h = ap lines_of h.1 ∙ last_line l h.0
lines_again (l ∷ k ∷ ls) text h = ap lines_of h.1.1 ∙ first_line l h.1.0 h.0 ∙ ap (λ (rest : List (List ℕ)). l ∷ rest) (lines_again (k ∷ ls) h.1.0 h.1.2)
