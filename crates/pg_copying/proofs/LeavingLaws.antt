-- What a copy that is given up leaves for the pool.
use Rattle.std.proofs.Common.{◌≡◌, ℕ, Bool, Option, Some, None}
use Rattle.std.specs.Prelude.{option_map}
use Rattle.std.proofs.lemmas.Option.{same_Some}
use Rattle.pg_pool.specs.declared.handed.PoolConnection.{PoolConnection}
use Rattle.pg_pool.specs.declared.handed.Released.{Released}
use Rattle.pg_pool.specs.Seats.{SeatSeen}
use Rattle.pg_copying.specs.PoolCopies.{ReleasesIfHeld, ReleasesTo}

module _ {C : Type 0} (clean : C → Bool) (most : ℕ) (s t : SeatSeen) (left : PoolConnection C → PoolConnection C) where
  pub released_if_held : (was : Option (PoolConnection C)) (held : PoolConnection C) (answer : Released C) → Some held ≡ option_map left was → ReleasesTo clean most s t held answer → ReleasesIfHeld clean most s t left was (Some answer)
  released_if_held (Some was) held answer e r = rw (same_Some held (left was) e) at r
  released_if_held None held answer e r = absurd cc
