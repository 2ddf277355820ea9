-- The messages and formulas of SCRAM-SHA-256 without channel binding (RFC 5802, sections 3, 5 and 7; RFC 7677).
use Rattle.std.specs.Prelude.{◌≡◌, ℕ, ◌<◌, ◌≤◌, ◌^◌, ◌==◌, ◌||◌, nat_lt, Bool, if◌then◌else◌, ◌⊎◌, List, [], ◌∷◌, ◌++◌, length, take, codes, Option, None}
use Rattle.std.specs.List.{AllPass, flat_map, position}
use Rattle.std.specs.Char.{is_ascii_digit}
use Rattle.std.specs.Str.Parse.{digits_value}
use Rattle.sha2.specs.Sha256.{sha256}
use Rattle.base64.specs.Engines.{standard}
use Rattle.base64.specs.GeneralPurpose.{IsBytes, encode_of}
use Rattle.pg_auth.specs.Hmac.{hmac, xor_bytes}
use Rattle.pg_auth.specs.Hi.{hi}
use Rattle.pg_auth.specs.Nonce.{ArePrintable}

-- ---- names and passwords

-- a text of printable ASCII is its own normal form under SASLprep (RFC 4013, section 2); no other is sent
abbrev pub is_outside : ℕ → Bool
is_outside b = nat_lt b 0x20 || nat_lt 0x7E b

-- the place of the first byte that is not printable ASCII
unfoldable pub first_outside : List ℕ → Option ℕ
first_outside text = position is_outside text

abbrev pub IsPlain : List ℕ → Type 0
IsPlain text = first_outside text ≡ None

-- saslname: "," is sent as "=2C" and "=" as "=3D" (section 5.1, attribute n)
unfoldable pub saslname_character : ℕ → List ℕ
saslname_character b = if b == 44 then codes "=2C" else if b == 61 then codes "=3D" else b ∷ []

abbrev pub saslname : List ℕ → List ℕ
saslname user = flat_map saslname_character user

-- ---- messages (section 7)

-- client-first-message-bare = username "," nonce
unfoldable pub client_first_bare : List ℕ → List ℕ → List ℕ
client_first_bare user nonce = codes "n=" ++ saslname user ++ codes ",r=" ++ nonce

-- client-first-message = gs2-header client-first-message-bare; "n": the client does no channel binding
unfoldable pub client_first : List ℕ → List ℕ → List ℕ
client_first user nonce = codes "n,," ++ client_first_bare user nonce

-- what a server-first-message says
pub record ServerFirst : Type 0 where
  pub nonce : List ℕ
  pub salt : List ℕ
  pub rounds : ℕ

-- one to ten digits of a number that 32 bits can carry
pub record IsCount (digits : List ℕ) (n : ℕ) : Type 0 where
  pub some : 0 < length digits
  pub short : length digits ≤ 10
  pub decimal : AllPass is_ascii_digit digits
  pub value : digits_value 10 digits ≡ n
  pub fits : n < 2 ^ 32

-- extensions stand behind a comma
abbrev pub AreExtensions : List ℕ → Type 0
AreExtensions rest = (rest ≡ []) ⊎ ((more : List ℕ) × (rest ≡ 44 ∷ more))

-- server-first-message = nonce "," salt "," iteration-count ["," extensions]
pub record IsServerFirst (text : List ℕ) (m : ServerFirst) : Type 0 where
  pub digits : List ℕ
  pub rest : List ℕ
  pub spelled : text ≡ codes "r=" ++ m.nonce ++ codes ",s=" ++ encode_of standard m.salt ++ codes ",i=" ++ digits ++ rest
  pub some : 0 < length m.nonce
  pub printable : ArePrintable m.nonce
  pub salt : IsBytes m.salt
  pub count : IsCount digits m.rounds
  pub extensions : AreExtensions rest

-- the server's nonce begins with the client's and goes on (section 5.1, attribute r)
abbrev pub Continues : List ℕ → List ℕ → Type 0
Continues client server = (length client < length server) × (take (length client) server ≡ client)

-- client-final-message-without-proof = channel-binding "," nonce; "biws" is "n,," in base64
unfoldable pub client_final_bare : List ℕ → List ℕ
client_final_bare nonce = codes "c=biws,r=" ++ nonce

-- verifier: the message of a server that was given the right proof
unfoldable pub verifier_text : List ℕ → List ℕ
verifier_text signature = codes "v=" ++ encode_of standard signature

-- ---- formulas (section 3)

abbrev pub salted_password : List ℕ → ServerFirst → List ℕ
salted_password password m = hi password m.salt m.rounds

abbrev pub client_key : List ℕ → List ℕ
client_key salted = hmac salted (codes "Client Key")

abbrev pub stored_key : List ℕ → List ℕ
stored_key salted = sha256 (client_key salted)

abbrev pub server_key : List ℕ → List ℕ
server_key salted = hmac salted (codes "Server Key")

unfoldable pub auth_message : List ℕ → List ℕ → List ℕ → List ℕ → List ℕ
auth_message user nonce server_first server_nonce =
    client_first_bare user nonce ++ codes "," ++ server_first ++ codes "," ++ client_final_bare server_nonce

unfoldable pub client_proof : List ℕ → List ℕ → List ℕ
client_proof salted message = xor_bytes (client_key salted) (hmac (stored_key salted) message)

unfoldable pub server_signature : List ℕ → List ℕ → List ℕ
server_signature salted message = hmac (server_key salted) message

-- client-final-message = client-final-message-without-proof "," proof
unfoldable pub client_final : List ℕ → List ℕ → List ℕ
client_final nonce proof = client_final_bare nonce ++ codes ",p=" ++ encode_of standard proof
