-- HMAC over SHA-256 (RFC 2104, section 2): blocks are of 64 bytes, digests of 32.
use Rattle.std.specs.Prelude.{ℕ, ◌-◌, List, [], ◌∷◌, ◌++◌, length, replicate, nat_lt, bit_xor, if◌then◌else◌}
use Rattle.sha2.specs.Sha256.{sha256}

-- each byte with the other's at its place, by exclusive or
unfoldable pub xor_bytes : List ℕ → List ℕ → List ℕ
xor_bytes [] right = []
xor_bytes (a ∷ left) [] = []
xor_bytes (a ∷ left) (b ∷ right) = bit_xor a b ∷ xor_bytes left right

-- a key with zero bytes behind it, up to a block
abbrev pub with_zeros : List ℕ → List ℕ
with_zeros key = key ++ replicate (64 - length key) 0

-- the key as a block: one that is longer is hashed first
unfoldable pub block_of : List ℕ → List ℕ
block_of key = with_zeros (if nat_lt 64 (length key) then sha256 key else key)

-- the bytes 0x36 and 0x5C, as many as a block has
abbrev pub ipad : List ℕ
ipad = replicate 64 0x36

abbrev pub opad : List ℕ
opad = replicate 64 0x5C

-- H(K XOR opad, H(K XOR ipad, text))
unfoldable pub hmac : List ℕ → List ℕ → List ℕ
hmac key text = sha256 (xor_bytes opad (block_of key) ++ sha256 (xor_bytes ipad (block_of key) ++ text))
