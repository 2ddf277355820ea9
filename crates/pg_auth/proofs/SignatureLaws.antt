-- The signature that an answer awaits is one that a server-final-message can tell, and such a message tells one alone.
use Rattle.std.proofs.Common.{◌≡◌, ℕ, zero, suc, List, [], ◌∷◌, ◌++◌, length, codes, Result, Ok, refl, sym, ap, ◌∙◌, arith}
use Rattle.std.specs.Prelude.{slice_index}
use Rattle.std.specs.Int.{w32, to_be_bytes}
use Rattle.sha2.specs.Sha256.{sha256, digest_bytes}
use Rattle.sha2.proofs.Facts256.{length-sha256}
use Rattle.base64.specs.Engines.{standard}
use Rattle.base64.specs.GeneralPurpose.{IsBytes, decode_of, encode_of}
use Rattle.base64.specs.declared.decode.DecodeError.{DecodeError}
use Rattle.base64.proofs.EngineFacts.{decode_of-encode_of}
use Rattle.pg_auth.specs.Hmac.{hmac}
use Rattle.pg_auth.specs.Scram.{server_signature, verifier_text}
use Rattle.pg_auth.specs.ScramAnswers.{IsAnswer, IsVerifier}
use Rattle.pg_auth.specs.declared.scram.answer.ScramAnswer.{ScramAnswer}

-- ---- the bytes of a digest

both_bytes : (x y : List ℕ) → IsBytes x → IsBytes y → IsBytes (x ++ y)
both_bytes [] y h k i = k i
both_bytes (n ∷ x) y h k zero = h zero
both_bytes (n ∷ x) y h k (suc i) = both_bytes x y (λ j. h (suc j)) k i

word_bytes : (n : ℕ) → IsBytes (to_be_bytes w32 n)
word_bytes n zero = omega arith
word_bytes n (suc zero) = omega arith
word_bytes n (suc (suc zero)) = omega arith
word_bytes n (suc (suc (suc zero))) = omega arith
word_bytes n (suc (suc (suc (suc i)))) = omega arith

words_bytes : (h : List ℕ) (n : ℕ) → IsBytes (digest_bytes h n)
unfolding digest_bytes
words_bytes h zero i = omega arith
words_bytes h (suc n) i = both_bytes (digest_bytes h n) (to_be_bytes w32 (slice_index h n)) (words_bytes h n) (word_bytes (slice_index h n)) i

digest_is_bytes : (m : List ℕ) → IsBytes (sha256 m)
unfolding sha256
digest_is_bytes m = words_bytes _ 8

abbrev IsSignature : List ℕ → Type 0
IsSignature text = (length text ≡ 32) × IsBytes text

keyed : (key text : List ℕ) → IsSignature (hmac key text)
unfolding hmac
keyed key text = (length-sha256 _, digest_is_bytes _)

signed : (salted message : List ℕ) → IsSignature (server_signature salted message)
unfolding server_signature
signed salted message = keyed _ _

pub can_be_told : (user password nonce text : List ℕ) (answer : ScramAnswer) → IsAnswer user password nonce text answer → IsVerifier (verifier_text answer.verifier) answer.verifier
can_be_told user password nonce text answer is =
    let s : IsSignature answer.verifier = rw is.answers.1 (signed _ _) in
    record { size = s.0; bytes = s.1; spelled = refl }

-- ---- one reading

decoded : (r : Result (List ℕ) DecodeError) (x y : List ℕ) → r ≡ Ok x → r ≡ Ok y → x ≡ y
decoded r x y p q = cc

behind_name : (x y : List ℕ) → codes "v=" ++ x ≡ codes "v=" ++ y → x ≡ y
behind_name x y e = cc

pub one_signature : (text x y : List ℕ) → IsVerifier text x → IsVerifier text y → x ≡ y
unfolding verifier_text
one_signature text x y p q =
    let same = behind_name (encode_of standard x) (encode_of standard y) (sym p.spelled ∙ q.spelled) in
    decoded (decode_of standard (encode_of standard x)) x y (decode_of-encode_of standard x refl p.bytes) (ap (decode_of standard) same ∙ decode_of-encode_of standard y refl q.bytes)
