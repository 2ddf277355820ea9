-- What the builder writes is read back by a server.
use Rattle.std.proofs.Common.{◌≡◌, ℕ, ◌<◌, ◌||◌, ◌==◌, Bool, true, false, List, [], ◌∷◌, ◌++◌, length, refl, sym, ap, ◌∙◌, arith, append-nil, append_assoc, length-append, flat_map, fold, None, codes, if◌then◌else◌}
use Rattle.pg_options.specs.Escaping.{escaped, escaped_byte, switch, with_switch, options_with, words, words_after, switch_words}

abbrev Pair : Type 0
Pair = List ℕ × List ℕ

-- one byte of a word, where the tests of its definition answer so
read_so : (space backslash : Bool) (b : ℕ) (word more : List ℕ) → (b == 32) ≡ space → (b == 92) ≡ backslash
    → words_after word false ((if (space || backslash) then 92 ∷ b ∷ [] else b ∷ []) ++ more) ≡ words_after (word ++ b ∷ []) false more
unfolding words_after
read_so true backslash b word more s t = refl
read_so false true b word more s t = refl
read_so false false b word more s t = rw (t, s) refl

read_byte : (b : ℕ) (word more : List ℕ)
    → words_after word false (escaped_byte b ++ more) ≡ words_after (word ++ b ∷ []) false more
read_byte b word more = read_so (b == 32) (b == 92) b word more refl refl

-- a word, up to what follows it
read_word : (text word more : List ℕ) → words_after word false (escaped text ++ more) ≡ words_after (word ++ text) false more
unfolding escaped
read_word [] word more = rw append-nil refl
read_word (b ∷ text) word more =
    rw append_assoc (read_byte b word (escaped text ++ more) ∙ read_word text (word ++ b ∷ []) more ∙ ap (λ w. words_after w false more) (append_assoc word (b ∷ []) text))

-- an option is its two words
read_switch : (pair : Pair) (more : List ℕ)
    → words_after [] false (switch pair ++ more) ≡ codes "-c" ∷ words_after (pair.0 ++ 61 ∷ [] ++ pair.1) false more
unfolding switch words_after
read_switch pair more =
    ap (λ ws. codes "-c" ∷ ws) (simp append_assoc (read_word pair.0 [] (61 ∷ (escaped pair.1 ++ more)) ∙ read_word pair.1 (pair.0 ++ 61 ∷ []) more ∙ ap (λ w. words_after w false more) (append_assoc pair.0 (61 ∷ []) pair.1)))

-- the options behind the first one
abbrev behind : List Pair → List ℕ
behind pairs = flat_map (λ p. 32 ∷ switch p) pairs

read_behind : (word : List ℕ) (pairs : List Pair) → words_after word false (behind pairs) ≡ word ∷ flat_map switch_words pairs
unfolding words_after
read_behind word [] = refl
read_behind word (p ∷ pairs) =
    ap (λ ws. word ∷ ws) (read_switch p (behind pairs) ∙ ap (λ ws. codes "-c" ∷ ws) (read_behind (p.0 ++ 61 ∷ [] ++ p.1) pairs))

-- what the builder adds to a text that is not empty
separated : (text : List ℕ) (p : Pair) → 0 < length text → with_switch text p ≡ text ++ 32 ∷ switch p
separated text p h =
    let e : (length text == 0) ≡ false = grind arith in
    rw e (append_assoc text (32 ∷ []) (switch p))

added : (text : List ℕ) (pairs : List Pair) → 0 < length text → fold with_switch text pairs ≡ text ++ behind pairs
added text [] h = sym (append-nil text)
added text (p ∷ pairs) h =
    rw (separated text p h) (added (text ++ 32 ∷ switch p) pairs (rw length-append (omega arith)) ∙ append_assoc text (32 ∷ switch p) (behind pairs))

pub read_back : (pairs : List Pair) → words (options_with None pairs) ≡ flat_map switch_words pairs
unfolding switch
read_back [] = refl
read_back (p ∷ pairs) =
    ap words (added (switch p) pairs (omega arith)) ∙ read_switch p (behind pairs) ∙ ap (λ ws. codes "-c" ∷ ws) (read_behind (p.0 ++ 61 ∷ [] ++ p.1) pairs)
