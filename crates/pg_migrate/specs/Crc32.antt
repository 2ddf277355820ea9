-- CRC-32/ISO-HDLC (ISO/IEC 13239; IEEE 802.3, section 3.2.9) over bits. A register is a polynomial over the field of two elements, of degree
-- 31 at most, reflected: bit 31 - k of the number is the coefficient of x^k.
use Rattle.std.specs.Prelude.{ℕ, zero, suc, ◌-◌, ◌*◌, ◌/◌, ◌%◌, ◌^◌, List, [], ◌∷◌, map, sum, bit_xor, ℤ, pos}
use Rattle.std.specs.List.{fold}

-- the terms of the generator polynomial below x^32
abbrev pub exponents : List ℕ
exponents = 26 ∷ 23 ∷ 22 ∷ 16 ∷ 12 ∷ 11 ∷ 10 ∷ 8 ∷ 7 ∷ 5 ∷ 4 ∷ 2 ∷ 1 ∷ 0 ∷ []

-- what x^32 is, modulo the generator
abbrev pub polynomial : ℕ
polynomial = sum (map (λ (k : ℕ). 2 ^ (31 - k)) exponents)

-- times x, modulo the generator
unfoldable pub times_x : ℕ → ℕ
times_x register = bit_xor (register / 2) (register % 2 * polynomial)

-- one more bit of the message, which is added to the coefficient of x^31
abbrev pub behind_bit : ℕ → ℕ → ℕ
behind_bit register bit = times_x (bit_xor register bit)

-- the lowest n bits, the lowest one first
abbrev pub bits : ℕ → ℕ → List ℕ
bits zero byte = []
bits (suc n) byte = byte % 2 ∷ bits n (byte / 2)

unfoldable pub behind_byte : ℕ → ℕ → ℕ
behind_byte register byte = fold behind_bit register (bits 8 byte)

-- all ones come first, and all bits are turned at the end
unfoldable pub crc32 : List ℕ → ℕ
crc32 message = bit_xor (fold behind_byte 0xffffffff message) 0xffffffff

-- the key of the lock of a database's migrations
abbrev pub lock_id : List ℕ → ℤ
lock_id database = pos (0x3d32ad9e * crc32 database)
