-- What is read of a server-final-message is a signature in base64, and nothing else is.
use Rattle.std.proofs.Common.{◌≡◌, ◌≢◌, ℕ, ◌≤◌, nat_eq, List, [], ◌∷◌, ◌++◌, length, take, drop, replicate, Option, Some, None, Result, Ok, Err, codes, refl, arith, sym, ◌∙◌, ap}
use Rattle.std.specs.Prelude.{◌&&◌}
use Rattle.std.proofs.lemmas.Bool.Decides.{nat_tests}
use Rattle.std.proofs.lemmas.List.{length-append, length-replicate, length-take-le, take-append-drop}
use Rattle.base64.specs.Engines.{standard}
use Rattle.base64.specs.declared.decode.DecodeError.{DecodeError}
use Rattle.base64.specs.Rfc4648.{encode_symbols, padding_len}
use Rattle.base64.specs.GeneralPurpose.{IsBytes, IsDecodedInto, decode_of, encode_of}
use Rattle.base64.proofs.EngineFacts.{decode_of_strict, decode_of-encode_of, front_bytes}
use Rattle.base64.proofs.RoundTrip.{length-encode_symbols}
use Rattle.pg_auth.specs.Scram.{verifier_text}
use Rattle.pg_auth.specs.ScramAnswers.{IsVerifier}
use Rattle.pg_auth.specs.Reading.{verifier_at, IsEncoded}
use Rattle.pg_wire.proofs.Tests.{both_true, same_found}
use Rattle.std.proofs.lemmas.Option.{cond_some}

encoded_length : (s : List ℕ) → length s ≡ 32 → length (encode_of standard s) ≡ 44
encoded_length s size =
    let symbols : length (encode_symbols standard.encode_table s) ≡ 43 = length-encode_symbols standard.encode_table s ∙ rw size refl in
    let padding : length (replicate (padding_len (length s)) 61) ≡ 1 = length-replicate {A = ℕ} (padding_len (length s)) 61 ∙ rw size refl in
    length-append (encode_symbols standard.encode_table s) (replicate (padding_len (length s)) 61) ∙ rw (symbols, padding) refl

pub no_signature_of_size : (text : List ℕ) → length text ≢ 44 → (s : List ℕ) → IsEncoded text s → ⊥
no_signature_of_size text other s is = other (ap length is.spelled ∙ encoded_length s is.size)

decodes : (text s : List ℕ) → IsEncoded text s → decode_of standard text ≡ Ok s
decodes text s is = rw is.spelled (decode_of-encode_of standard s refl is.bytes)

err_ok : {A E : Type 0} (r : Result A E) (e : E) (x : A) → r ≡ Err e → r ≡ Ok x → ⊥
err_ok r e x a b = cc

ok_ok : {A E : Type 0} (r : Result A E) (x y : A) → r ≡ Ok x → r ≡ Ok y → x ≡ y
ok_ok r x y a b = cc

pub no_signature_undecoded : (text : List ℕ) (e : DecodeError) → decode_of standard text ≡ Err e → (s : List ℕ) → IsEncoded text s → ⊥
no_signature_undecoded text e refused s is = err_ok (decode_of standard text) e s refused (decodes text s is)

pub no_signature_of_count : (text old new : List ℕ) (n : ℕ) → length new ≡ length old → IsDecodedInto standard text n old new → n ≢ 32 → (s : List ℕ) → IsEncoded text s → ⊥
no_signature_of_count text old new n same into other s is =
    let e : take n new ≡ s = ok_ok (decode_of standard text) (take n new) s into.0 (decodes text s is) in
    let fits : n ≤ length new = omega (arith, into.2) in
    other (sym (length-take-le n new fits) ∙ ap length e ∙ is.size)

pub taken_bytes : (n : ℕ) (xs : List ℕ) → IsBytes xs → IsBytes (take n xs)
taken_bytes n xs h = front_bytes (take n xs) (drop n xs) (rw (take-append-drop n xs) h)

pub is_encoded : (text s : List ℕ) → IsBytes text → decode_of standard text ≡ Ok s → length s ≡ 32 → IsBytes s → IsEncoded text s
is_encoded text s bytes decoded size all = record {
  size = size;
  bytes = all;
  spelled = decode_of_strict standard text s (refl, refl) bytes decoded;
}

-- ---- behind `v=`

verifier_is : (text encoded : List ℕ) → verifier_at text ≡ Some encoded → text ≡ codes "v=" ++ encoded
unfolding verifier_at
verifier_is [] encoded e = absurd cc
verifier_is (n ∷ []) encoded e = absurd cc
verifier_is (n ∷ sign ∷ text) encoded e =
    let taken = cond_some (nat_eq n 118 && nat_eq sign 61) text encoded e in
    let tests = both_true (nat_eq n 118) (nat_eq sign 61) taken.0 in
    let named : n ≡ 118 = grind (arith, nat_tests, tests.0) in
    let signed : sign ≡ 61 = grind (arith, nat_tests, tests.1) in
    rw (named, signed) (ap (λ (y : List ℕ). 118 ∷ 61 ∷ y) taken.1)

none_some : {A : Type 0} (o : Option A) (x : A) → o ≡ None → o ≡ Some x → ⊥
none_some o x a b = cc

verifier_of : (text s : List ℕ) → IsVerifier text s → verifier_at text ≡ Some (encode_of standard s)
unfolding verifier_at verifier_text
verifier_of text s is = rw is.spelled refl

pub no_verifier : (text : List ℕ) → verifier_at text ≡ None → (s : List ℕ) → IsVerifier text s → ⊥
no_verifier text none s is = none_some (verifier_at text) (encode_of standard s) none (verifier_of text s is)

pub no_verifier_behind : (text encoded : List ℕ) → verifier_at text ≡ Some encoded → ((s : List ℕ) → IsEncoded encoded s → ⊥) → (s : List ℕ) → IsVerifier text s → ⊥
no_verifier_behind text encoded some none s is =
    none s (record { size = is.size; bytes = is.bytes; spelled = same_found (verifier_at text) encoded (encode_of standard s) some (verifier_of text s is) })

pub verifier_behind : (text encoded s : List ℕ) → verifier_at text ≡ Some encoded → IsEncoded encoded s → IsVerifier text s
unfolding verifier_text
verifier_behind text encoded s some is = record {
  size = is.size;
  bytes = is.bytes;
  spelled = verifier_is text encoded some ∙ ap (λ (y : List ℕ). codes "v=" ++ y) is.spelled;
}
