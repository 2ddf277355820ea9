-- A key that the two hashes of HMAC have taken in. No public clause cites this module.
use Rattle.std.specs.Prelude.{ℕ, List}
use Rattle.sha2.specs.Hashers.{Holds256}
use Rattle.pg_auth.specs.Hmac.{xor_bytes, block_of, ipad, opad}
use Rattle.pg_auth.specs.declared.keyed_hash.HmacKey.{HmacKey}

pub record IsKey (k : HmacKey) (key : List ℕ) : Type 0 where
  pub inner : Holds256 k.inner (xor_bytes ipad (block_of key))
  pub outer : Holds256 k.outer (xor_bytes opad (block_of key))
