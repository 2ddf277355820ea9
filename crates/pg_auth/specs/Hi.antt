-- Hi (RFC 5802, section 2.2), over HMAC with SHA-256 (RFC 7677): the password made costly to guess.
use Rattle.std.specs.Prelude.{ℕ, zero, suc, ◌-◌, List, ◌++◌}
use Rattle.std.specs.Int.{w32, to_be_bytes}
use Rattle.pg_auth.specs.Hmac.{hmac, xor_bytes}

-- U1, U2 and so on, counted from 0: U1 := HMAC(str, salt + INT(1)), and each U after it is the HMAC of the one before
unfoldable pub u : List ℕ → List ℕ → ℕ → List ℕ
u str salt zero = hmac str (salt ++ to_be_bytes w32 1)
u str salt (suc n) = hmac str (u str salt n)

-- U1 XOR U2 XOR .. , n of them after U1
unfoldable pub u_through : List ℕ → List ℕ → ℕ → List ℕ
u_through str salt zero = u str salt 0
u_through str salt (suc n) = xor_bytes (u_through str salt n) (u str salt (suc n))

-- Hi := U1 XOR U2 XOR .. XOR Ui; the RFC has i of 1 at least, and 0 is read as 1
unfoldable pub hi : List ℕ → List ℕ → ℕ → List ℕ
hi str salt i = u_through str salt (i - 1)
