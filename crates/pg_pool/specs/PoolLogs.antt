-- The stored history beside the ids that it leaves.
use Rattle.std.specs.Prelude.{ℕ, ◌+◌, ◌-◌, ◌≡◌, ◌<◌, ◌≤◌, Bool, List, length}
use Rattle.pg_wire.specs.declared.pool.PoolAct.{PoolAct}
use Rattle.pg_wire.specs.declared.pool.PoolAct.TheVariants.{GotIdle, GotNew, Full, WasClosed, Kept, Dropped, Close}
use Rattle.pg_wire.specs.declared.pool.PoolEntry.{PoolEntry}
use Rattle.pg_pool.specs.declared.ids.Ids.{Ids}
use Rattle.pg_pool.specs.PoolHistory.{PoolState, PoolHistory, state_of}

abbrev pub state_of_ids : Ids → PoolState
state_of_ids n = record { idle = n.idle.items; out = n.out.items; next = n.next; closed = n.closed }

-- the state s is what this history leaves, one thread could have made it, and no more than the maximum are out or idle
pub record Fits (most : ℕ) (es : List PoolEntry) (s : PoolState) : Type 0 where
  pub state : state_of es ≡ s
  pub legal : PoolHistory most es
  pub next : s.next ≤ length es
  pub seats : length s.idle + length s.out ≤ most

-- places in the history, in the list of idle ids and in that of ids out
pub record LogSeen : Type 0 where
  pub history : List PoolEntry
  pub most : ℕ
  pub room : ℕ
  pub idle_places : ℕ
  pub out_places : ℕ

abbrev pub log_state : LogSeen → PoolState
log_state l = state_of l.history

-- each that is out can come back
pub record CanReturn (s : PoolState) (room idle_places : ℕ) : Type 0 where
  pub entries : length s.out ≤ room
  pub ids : length s.idle + length s.out ≤ idle_places

-- one more call can be noted, and what it hands out can come back
pub record HasPlaces (s : PoolState) (room idle_places out_places : ℕ) : Type 0 where
  pub entries : length s.out + 1 < room
  pub ids : length s.idle + length s.out < idle_places
  pub out : length s.out < out_places

-- what comes back needs nothing
abbrev pub UnlessReturn : PoolAct → Type 0 → Type 0
UnlessReturn (GotIdle id) t = t
UnlessReturn (GotNew id) t = t
UnlessReturn (Full out idle) t = t
UnlessReturn WasClosed t = t
UnlessReturn (Kept id) t = Unit {0}
UnlessReturn (Dropped id) t = Unit {0}
UnlessReturn Close t = t

abbrev pub log_has_places : LogSeen → Type 0
log_has_places l = HasPlaces (log_state l) l.room l.idle_places l.out_places
