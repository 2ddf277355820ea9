-- Where a listener's connections come from: a pool with a participant of it, each by what holds it, and a dial.
use Rattle.std.specs.Prelude.{◌≡◌, ℕ}
use Rattle.pg_options.specs.Options.{ConnectOptions}
use Rattle.pg_conn.specs.Dials.{DialSeen}
use Rattle.pg_pool.specs.Seats.{SeatSeen}
use Rattle.pg_listen.specs.Handed.{PoolSeen}

-- what is seen of it: a pool of this name, its maximum and its options, its participant, and how many faults its dial has counted
pub record SourceSeen : Type 0 where
  pub name : ℕ
  pub most : ℕ
  pub options : ConnectOptions
  pub seat : SeatSeen
  pub faults : ℕ

-- only its participant has changed; or that, and what its dial has counted
abbrev pub IsSeated : SourceSeen → SourceSeen → Type 0
IsSeated a b = b ≡ record a { seat = b.seat }

abbrev pub IsDialled : SourceSeen → SourceSeen → Type 0
IsDialled a b = b ≡ record a { seat = b.seat; faults = b.faults }

-- ---- of a pool

pub record PoolSourceOf (P S D : Type 0) : Type 0 where
  pub pool : P
  pub seat : S
  pub dial : D
  pub now : SourceSeen

abbrev pub pool_source : {P S D : Type 0} → (P → PoolSeen) → (S → SeatSeen) → (D → DialSeen) → ℕ → P → S → D → PoolSourceOf P S D
pool_source pool_of seat_of dial_of most pool seat dial = record {
  pool = pool;
  seat = seat;
  dial = dial;
  now = record { name = (pool_of pool).name; most = most; options = (pool_of pool).options; seat = seat_of seat; faults = (dial_of dial).faults };
}
