-- What one participant knows of a pool.
use Rattle.std.specs.Prelude.{ℕ, ◌≡◌, List, length}
use Rattle.pg_pool.specs.declared.seat.Receipt.{Receipt}

-- `room` is that for further receipts, `id_places` that for all ids
pub record SeatSeen : Type 0 where
  pub number : ℕ
  pub name : ℕ
  pub receipts : List Receipt
  pub ids : List ℕ
  pub room : ℕ
  pub id_places : ℕ

-- a participant's receipts and ids changed to these, and nothing else
pub record Becomes (s t : SeatSeen) (held : List Receipt) (out : List ℕ) : Type 0 where
  pub receipts : t.receipts ≡ held
  pub ids : t.ids ≡ out
  pub number : t.number ≡ s.number
  pub name : t.name ≡ s.name
