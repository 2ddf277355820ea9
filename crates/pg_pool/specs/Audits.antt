-- Receipts against the history.
use Rattle.std.specs.Prelude.{ℕ, ◌+◌, ◌≡◌, Bool, true, false, ◌&&◌, nat_eq, List, [], ◌∷◌, length, Option, Some, None, Result, Ok, Err}
use Rattle.std.specs.Bool.{if◌then◌else◌}
use Rattle.std.specs.List.{slice_get}
use Rattle.pg_wire.specs.declared.pool.PoolAct.{PoolAct}
use Rattle.pg_wire.specs.declared.pool.PoolAct.TheVariants.{GotIdle, GotNew, Full, WasClosed, Kept, Dropped, Close}
use Rattle.pg_wire.specs.declared.pool.PoolEntry.{PoolEntry}
use Rattle.pg_wire.specs.declared.error.Error.{Error}
use Rattle.pg_wire.specs.declared.error.Error.TheVariants as errors
use Rattle.pg_pool.specs.declared.seat.Receipt.{Receipt}
use Rattle.pg_pool.specs.Seats.{SeatSeen}

-- an act as three numbers, which tell it
abbrev pub numbers : PoolAct → ℕ × ℕ × ℕ
numbers (GotIdle id) = (0, id, 0)
numbers (GotNew id) = (1, id, 0)
numbers (Full out idle) = (2, out, idle)
numbers WasClosed = (3, 0, 0)
numbers (Kept id) = (4, id, 0)
numbers (Dropped id) = (5, id, 0)
numbers Close = (6, 0, 0)

abbrev pub same_act : PoolAct → PoolAct → Bool
same_act a b = nat_eq (numbers a).0 (numbers b).0 && nat_eq (numbers a).1 (numbers b).1 && nat_eq (numbers a).2 (numbers b).2

abbrev pub same_entry : PoolEntry → PoolEntry → Bool
same_entry e f = nat_eq e.seat f.seat && same_act e.act f.act

abbrev pub is_kept_as : PoolEntry → Option PoolEntry → Bool
is_kept_as held None = false
is_kept_as held (Some kept) = same_entry kept held

-- the entry of the receipt stands at its place
abbrev pub stands : List PoolEntry → Receipt → Bool
stands history r = is_kept_as r.entry (slice_get history r.place)

-- what a receipt is refused for
abbrev pub difference : List PoolEntry → ℕ → Receipt → Option Error
difference history seat r = if stands history r then None else Some (errors.Audit seat r.place r.entry (slice_get history r.place))

-- the first refusal
abbrev pub first_of : Option Error → Option Error → Option Error
first_of None next = next
first_of (Some e) next = Some e

abbrev pub receipts_difference : List PoolEntry → ℕ → List Receipt → Option Error
receipts_difference history seat [] = None
receipts_difference history seat (r ∷ rs) = first_of (difference history seat r) (receipts_difference history seat rs)

abbrev pub seats_difference : List PoolEntry → List SeatSeen → Option Error
seats_difference history [] = None
seats_difference history (s ∷ ss) = first_of (receipts_difference history s.number s.receipts) (seats_difference history ss)

abbrev pub receipts_in : List SeatSeen → ℕ
receipts_in [] = 0
receipts_in (s ∷ ss) = length s.receipts + receipts_in ss

-- what an audit of all participants answers
abbrev pub Audits : List PoolEntry → List SeatSeen → Result ℕ Error → Type 0
Audits history seats (Ok n) = (seats_difference history seats ≡ None) × (n ≡ length history) × (n ≡ receipts_in seats)
Audits history seats (Err e) = seats_difference history seats ≡ Some e
