-- A key that is no longer than a block.
use Rattle.std.proofs.Common.{◌≡◌, ℕ, ◌≤◌, List, ◌++◌, length, drop, replicate, nat_lt, false, arith, refl}
use Rattle.std.proofs.lemmas.List.{drop-replicate}
use Rattle.pg_auth.specs.Hmac.{block_of}

pub short_block : (key new : List ℕ) → length key ≤ 64 → new ≡ key → new ++ drop (length key) (replicate 64 0) ≡ block_of key
unfolding block_of
short_block key new short same =
    let test : nat_lt 64 (length key) ≡ false = grind arith in
    rw (same, drop-replicate {X = ℕ} (length key) 64 0, test) refl
