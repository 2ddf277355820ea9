-- What an Authentication message asks for.
use Rattle.std.specs.Prelude.{◌≡◌, ◌≢◌, ℕ, List, [], ◌∷◌, ◌++◌, Bool, Option, Some, None, IsFalse, nat_eq, flat_map}
use Rattle.std.specs.List.{AllByRecursion, list_any}
use Rattle.pg_wire.specs.Bytes.{ended, HasNoNul}
use Rattle.pg_wire.specs.Backend as backend
use Rattle.pg_wire.specs.declared.message.authentication.Authentication.{Authentication}
use Rattle.pg_wire.specs.declared.message.authentication.Authentication.TheVariants as requests

-- the codes of the methods that are told apart
abbrev pub is_method : ℕ → Bool
is_method code = list_any (nat_eq code) (0 ∷ 3 ∷ 5 ∷ 10 ∷ 11 ∷ 12 ∷ [])

-- the name of a mechanism: not empty, and without a zero byte
abbrev pub IsName : List ℕ → Type 0
IsName name = HasNoNul name × (name ≢ [])

-- a code and the bytes behind it, as a request tells them; of another method only the code is told
abbrev pub AsksFor : Authentication → ℕ → List ℕ → Type 0
AsksFor requests.Ok code bytes = (code ≡ 0) × (bytes ≡ [])
AsksFor requests.CleartextPassword code bytes = (code ≡ 3) × (bytes ≡ [])
AsksFor (requests.Md5Password salt) code bytes = (code ≡ 5) × (bytes ≡ salt)
AsksFor (requests.Sasl names) code bytes = (code ≡ 10) × AllByRecursion IsName names × (bytes ≡ flat_map ended names ++ 0 ∷ [])
AsksFor (requests.SaslContinue text) code bytes = (code ≡ 11) × (bytes ≡ text)
AsksFor (requests.SaslFinal text) code bytes = (code ≡ 12) × (bytes ≡ text)
AsksFor (requests.Other number) code bytes = (code ≡ number) × IsFalse (is_method code)

-- the message that a request tells
abbrev pub IsAsked : Authentication → backend.BackendMessage → Type 0
IsAsked request m = (code : ℕ) × (bytes : List ℕ) × (m ≡ backend.Authentication code bytes) × AsksFor request code bytes

-- a request where the bytes are in the grammar of the code, and none where they are not
abbrev pub IsRequest : ℕ → List ℕ → Option Authentication → Type 0
IsRequest code bytes (Some request) = backend.IsChallenge code bytes × AsksFor request code bytes
IsRequest code bytes None = backend.IsChallenge code bytes → ⊥

-- names, or none where the bytes are not those of names
abbrev pub AreNames : List ℕ → Option (List (List ℕ)) → Type 0
AreNames bytes (Some names) = backend.AreMechanisms bytes × AllByRecursion IsName names × (bytes ≡ flat_map ended names ++ 0 ∷ [])
AreNames bytes None = backend.AreMechanisms bytes → ⊥
