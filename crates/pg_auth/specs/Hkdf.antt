-- HKDF over SHA-256 (RFC 5869, sections 2.2 and 2.3), without a salt, and no more than its first block.
use Rattle.std.specs.Prelude.{ℕ, List, [], ◌∷◌, ◌++◌, take, replicate}
use Rattle.pg_auth.specs.Hmac.{hmac}

-- PRK = HMAC-Hash(salt, IKM); a salt that is not given is of zeros, as many as a digest has
abbrev pub extracted : List ℕ → List ℕ
extracted material = hmac (replicate 32 0) material

-- T(1) = HMAC-Hash(PRK, T(0) | info | 0x01), with T(0) the empty string
abbrev pub first_block : List ℕ → List ℕ → List ℕ
first_block key info = hmac key (info ++ 1 ∷ [])

-- OKM = the first L octets of T, for L = 8
unfoldable pub hkdf8 : List ℕ → List ℕ → List ℕ
hkdf8 material info = take 8 (first_block (extracted material) info)
