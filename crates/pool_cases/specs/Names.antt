-- Of which pool the leave of a start-up is.
use Rattle.std.specs.Prelude.{ℕ, ◌≡◌, Option, Some, None}
use Rattle.pg_pool.specs.declared.handed.Ticket.{Ticket}

abbrev pub IsOfPool : ℕ → Option Ticket → Type 0
IsOfPool name None = Unit {0}
IsOfPool name (Some ticket) = ticket.name ≡ name
