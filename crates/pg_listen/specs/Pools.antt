-- What lies under a pool's lock where it keeps connections, and what a call that takes the lock has to do with it.
use Rattle.std.specs.Prelude.{ℕ}
use Rattle.pg_conn.specs.Connections.{ConnOf}
use Rattle.pg_conn.specs.Cleanliness.{is_clean}
use Rattle.pg_pool.specs.Pools as pools
use Rattle.pg_pool.specs.Sections.{PoolOf}

-- what lies under the lock
abbrev pub CoreOf : Type 0 → Type 0
CoreOf A = PoolOf (ConnOf A)

-- A call takes the lock once: it finds a pool of this maximum, whose idle connections are clean, and makes this of it.
abbrev pub Section : {A : Type 0} → ℕ → (CoreOf A → CoreOf A → Type 0) → Type 0
Section maximum makes = pools.Section is_clean maximum makes
