-- How the server's messages are read from left to right. Their grammar is in Scram. No public clause cites this module.
use Rattle.std.specs.Prelude.{ℕ, ◌+◌, ◌-◌, ◌*◌, ◌^◌, ◌==◌, ◌&&◌, ◌≡◌, nat_lt, nat_le, if◌then◌else◌, List, [], ◌∷◌, length, Option, Some, None}
use Rattle.std.specs.List.{list_all}
use Rattle.std.specs.Result.{result_ok}
use Rattle.std.specs.Char.{is_ascii_digit}
use Rattle.base64.specs.Engines.{standard}
use Rattle.base64.specs.GeneralPurpose.{IsBytes, decode_of, encode_of}
use Rattle.pg_auth.specs.Nonce.{is_printable}
use Rattle.pg_auth.specs.Scram.{ServerFirst}

infixl 10 ◌>>=◌
abbrev pub ◌>>=◌ : {A B : Type 0} → Option A → (A → Option B) → Option B
None >>= f = None
(Some x) >>= f = f x

unfoldable pub before_comma : List ℕ → List ℕ
before_comma [] = []
before_comma (b ∷ rest) = if b == 44 then [] else b ∷ before_comma rest

unfoldable pub behind_comma : List ℕ → List ℕ
behind_comma [] = []
behind_comma (b ∷ rest) = if b == 44 then rest else behind_comma rest

-- an attribute's value, and what stands behind the comma that ends it
unfoldable pub attribute_at : ℕ → List ℕ → Option (List ℕ × List ℕ)
attribute_at name (n ∷ sign ∷ rest) = if n == name && sign == 61 then Some (before_comma rest, behind_comma rest) else None
attribute_at name _ = None

abbrev pub digits_after : ℕ → List ℕ → Option ℕ
digits_after n [] = Some n
digits_after n (b ∷ rest) = if is_ascii_digit b then digits_after (n * 10 + (b - 48)) rest else None

unfoldable pub count_at : List ℕ → Option ℕ
count_at digits = if nat_lt 0 (length digits) && nat_le (length digits) 10
    then (digits_after 0 digits >>= λ n. if nat_lt n (2 ^ 32) then Some n else None) else None

unfoldable pub are_printable : List ℕ → Option (List ℕ)
are_printable text = if nat_lt 0 (length text) && list_all is_printable text then Some text else None

unfoldable pub salt_at : List ℕ → Option (List ℕ)
salt_at text = result_ok (decode_of standard text)

-- the nonce, the salt's text and the number of rounds
unfoldable pub fields_at : List ℕ → Option (List ℕ × List ℕ × ℕ)
fields_at text = do
  r ← attribute_at 114 text
  s ← attribute_at 115 r.1
  i ← attribute_at 105 s.1
  nonce ← are_printable r.0
  rounds ← count_at i.0
  Some (nonce, s.0, rounds)

abbrev pub said : List ℕ → List ℕ → ℕ → ServerFirst
said nonce salt rounds = record { nonce = nonce; salt = salt; rounds = rounds }

unfoldable pub server_first_at : List ℕ → Option ServerFirst
server_first_at text = do
  fields ← fields_at text
  salt ← salt_at fields.1
  Some (said fields.0 salt fields.2)

-- what stands behind `v=`
unfoldable pub verifier_at : List ℕ → Option (List ℕ)
verifier_at (name ∷ sign ∷ rest) = if name == 118 && sign == 61 then Some rest else None
verifier_at _ = None

-- base64 of a signature
pub record IsEncoded (text signature : List ℕ) : Type 0 where
  pub size : length signature ≡ 32
  pub bytes : IsBytes signature
  pub spelled : text ≡ encode_of standard signature
