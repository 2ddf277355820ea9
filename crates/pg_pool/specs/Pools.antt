-- What is seen of a pool, what lies under its lock, and what a call that takes the lock has to do with it.
use Rattle.std.specs.Prelude.{ℕ, zero, suc, ◌+◌, ◌≡◌, ◌≤◌, Bool, true, List, [], ◌∷◌, ◌++◌, length}
use Rattle.pg_pool.specs.declared.handed.Acquired.{Acquired}
use Rattle.pg_pool.specs.declared.handed.Acquired.TheVariants as acquired
use Rattle.pg_pool.specs.declared.seat.Receipt.{Receipt}
use Rattle.pg_pool.specs.PoolHistory.{PoolHistory, state_of}
use Rattle.pg_pool.specs.Seats.{SeatSeen}
use Rattle.pg_pool.specs.Sections.{PoolOf, all_clean}

-- a pool's name, and how its connections are made
pub record PoolSeen (O : Type 0) : Type 0 where
  pub name : ℕ
  pub options : O

-- A pool of this maximum: one thread could have made its history, no more than the maximum are out or idle, and what is idle is clean.
pub record IsPool {C : Type 0} (is_clean : C → Bool) (maximum : ℕ) (p : PoolOf C) : Type 0 where
  pub most : p.most ≡ maximum
  pub legal : PoolHistory maximum p.history
  pub seats : length (state_of p.history).idle + length (state_of p.history).out ≤ maximum
  pub idle : length p.kept ≡ length (state_of p.history).idle
  pub clean : all_clean is_clean p.kept ≡ true

-- A call takes the lock once: it finds a pool of this maximum, and makes this of it.
abbrev pub Section : {C : Type 0} → (C → Bool) → ℕ → (PoolOf C → PoolOf C → Type 0) → Type 0
Section {C} is_clean maximum makes = (a : PoolOf C) × (b : PoolOf C) × IsPool is_clean maximum a × IsPool is_clean maximum b × makes a b

-- the name of the pool that handed it out
abbrev pub pool_of : {C : Type 0} → Acquired C → ℕ
pool_of (acquired.Idle held) = held.name
pool_of (acquired.New ticket) = ticket.name

-- a participant by its number, the name of its pool, its receipts and its ids
abbrev pub told_seats : List SeatSeen → List (ℕ × ℕ × List Receipt × List ℕ)
told_seats [] = []
told_seats (s ∷ ss) = (s.number, s.name, s.receipts, s.ids) ∷ told_seats ss

-- so many new ones, counted from 0
abbrev pub new_seats : ℕ → ℕ → List (ℕ × ℕ × List Receipt × List ℕ)
new_seats name zero = []
new_seats name (suc n) = new_seats name n ++ (n, name, [], []) ∷ []
