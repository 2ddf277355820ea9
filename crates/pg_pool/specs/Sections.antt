-- What lies under a pool's lock, and what each critical section does to it.
use Rattle.std.specs.Prelude.{ℕ, not, ◌≡◌, Bool, true, false, ◌&&◌, List, [], ◌∷◌, ◌++◌, length, Option, Some, None, Result, Ok, Err}
use Rattle.pg_wire.specs.declared.pool.PoolAct.{PoolAct}
use Rattle.pg_wire.specs.declared.pool.PoolAct.TheVariants as acts
use Rattle.pg_wire.specs.declared.pool.PoolEntry.{PoolEntry}
use Rattle.pg_wire.specs.declared.error.Error.{Error}
use Rattle.pg_wire.specs.declared.error.Error.TheVariants as errors
use Rattle.pg_pool.specs.declared.seat.Receipt.{Receipt}
use Rattle.pg_pool.specs.declared.handed.PoolConnection.{PoolConnection}
use Rattle.pg_pool.specs.declared.handed.Ticket.{Ticket}
use Rattle.pg_pool.specs.declared.handed.Acquired.{Acquired}
use Rattle.pg_pool.specs.declared.handed.Acquired.TheVariants.{Idle, New}
use Rattle.pg_pool.specs.declared.handed.Released.{Released}
use Rattle.pg_pool.specs.declared.handed.Released.TheVariants.{Foreign, Kept, Closed}
use Rattle.pg_pool.specs.PoolHistory.{state_of, may, has, without}
use Rattle.pg_pool.specs.PoolLogs.{LogSeen, log_state}
use Rattle.pg_pool.specs.Seats.{SeatSeen, Becomes}

-- `kept` are the idle connections, in the order of their ids
pub record PoolOf (C : Type 0) : Type 0 where
  pub history : List PoolEntry
  pub most : ℕ
  pub kept : List C

abbrev pub all_clean : {C : Type 0} → (C → Bool) → List C → Bool
all_clean clean [] = true
all_clean clean (c ∷ cs) = clean c && all_clean clean cs

-- a connection for each idle id, all of them clean, and an entry for each call that was counted
pub record InStep {C : Type 0} (is_clean : C → Bool) (l : LogSeen) (conns : List C) (total : ℕ) : Type 0 where
  pub lengths : length conns ≡ length (log_state l).idle
  pub clean : all_clean is_clean conns ≡ true
  pub count : length l.history ≡ total

-- nothing changed
pub record IsLeft {C : Type 0} (s t : SeatSeen) (a b : PoolOf C) : Type 0 where
  pub history : b.history ≡ a.history
  pub most : b.most ≡ a.most
  pub kept : b.kept ≡ a.kept
  pub seat : Becomes s t s.receipts s.ids

-- one entry was added, by this participant, which has a receipt for it; the ids that it holds are these now, and the pool keeps these
pub record IsAdded {C : Type 0} (s t : SeatSeen) (a b : PoolOf C) (act : PoolAct) (ids : List ℕ) (conns : List C) : Type 0 where
  pub legal : may a.most (state_of a.history) act ≡ true
  pub history : b.history ≡ a.history ++ record { seat = s.number; act = act } ∷ []
  pub most : b.most ≡ a.most
  pub kept : b.kept ≡ conns
  pub seat : Becomes s t (s.receipts ++ record { place = length a.history; entry = record { seat = s.number; act = act } } ∷ []) ids

-- what an acquire answers
abbrev pub Acquires : {C : Type 0} → (C → Bool) → SeatSeen → SeatSeen → PoolOf C → PoolOf C → Result (Acquired C) Error → Type 0
Acquires clean s t a b (Ok (Idle p)) = (a.kept ≡ p.conn ∷ b.kept) × (clean p.conn ≡ true) × (p.close ≡ false) × (p.name ≡ s.name) × IsAdded s t a b (acts.GotIdle p.id) (s.ids ++ p.id ∷ []) b.kept
Acquires clean s t a b (Ok (New k)) = (k.name ≡ s.name) × IsAdded s t a b (acts.GotNew k.id) (s.ids ++ k.id ∷ []) a.kept
Acquires clean s t a b (Err (errors.PoolTimedOut place)) = (place ≡ length a.history) × IsAdded s t a b (acts.Full (length (state_of a.history).out) 0) s.ids a.kept
Acquires clean s t a b (Err (errors.PoolClosed place)) = (place ≡ length a.history) × IsAdded s t a b acts.WasClosed s.ids a.kept
Acquires clean s t a b (Err errors.OutOfMemory) = IsLeft s t a b
Acquires clean s t a b (Err e) = ⊥

-- this participant holds the id, and it is out
abbrev pub is_held : {C : Type 0} → SeatSeen → PoolOf C → ℕ → Bool
is_held s a id = has id s.ids && has id (state_of a.history).out

abbrev pub is_kept : {C : Type 0} → (C → Bool) → PoolOf C → PoolConnection C → Bool
is_kept clean a p = not (state_of a.history).closed && not p.close && clean p.conn

-- what a release answers
abbrev pub Releases : {C : Type 0} → (C → Bool) → SeatSeen → SeatSeen → PoolOf C → PoolOf C → PoolConnection C → Released C → Type 0
Releases clean s t a b p (Foreign conn) = (conn ≡ p.conn) × (is_held s a p.id ≡ false) × IsLeft s t a b
Releases clean s t a b p Kept = (is_held s a p.id ≡ true) × (is_kept clean a p ≡ true) × IsAdded s t a b (acts.Kept p.id) (without p.id s.ids) (a.kept ++ p.conn ∷ [])
Releases clean s t a b p (Closed conn) = (conn ≡ p.conn) × (is_held s a p.id ≡ true) × (is_kept clean a p ≡ false) × IsAdded s t a b (acts.Dropped p.id) (without p.id s.ids) a.kept

-- what giving leave back answers
abbrev pub GivesBack : {C : Type 0} → SeatSeen → SeatSeen → PoolOf C → PoolOf C → Ticket → Bool → Type 0
GivesBack s t a b k true = (is_held s a k.id ≡ true) × IsAdded s t a b (acts.Dropped k.id) (without k.id s.ids) a.kept
GivesBack s t a b k false = (is_held s a k.id ≡ false) × IsLeft s t a b

-- the place of the refusal of a closed pool
abbrev pub ClosedAt : {C : Type 0} → SeatSeen → SeatSeen → PoolOf C → PoolOf C → Result (Option ℕ) Error → Type 0
ClosedAt s t a b (Ok (Some place)) = (place ≡ length a.history) × IsAdded s t a b acts.WasClosed s.ids a.kept
ClosedAt s t a b (Ok None) = ((state_of a.history).closed ≡ false) × IsLeft s t a b
ClosedAt s t a b (Err errors.OutOfMemory) = IsLeft s t a b
ClosedAt s t a b (Err e) = ⊥
