-- The room that is kept for the release of a lock, before the lock is asked for.
use Rattle.std.specs.Prelude.{◌≡◌, ◌≤◌, ◌+◌, ℕ, Bool, true, false, None}
use Rattle.pg_conn.specs.Connections.{ConnOf, with_spare}
use Rattle.pg_conn.specs.Holding.{gave_up, held_more}
use Rattle.pg_conn.specs.Turns.{kept_for, level_of}

-- one guard more is counted, and there is room for its release
abbrev pub IsHeld : {A : Type 0} → ConnOf A → ConnOf A → Type 0
IsHeld a b = (spare : ℕ) × (kept_for a + level_of a.change a.groups + 192 ≤ spare) × (b ≡ held_more (with_spare spare a))

-- none is, since there was no memory for it
abbrev pub IsUnheld : {A : Type 0} → ConnOf A → ConnOf A → Type 0
IsUnheld a b = (spare : ℕ) × (a.stream.spare ≤ spare) × (b ≡ with_spare spare a)

-- the same where a guard is to be, or none
abbrev pub IsHeldFor : {A : Type 0} → Bool → ConnOf A → ConnOf A → Type 0
IsHeldFor true a b = IsHeld a b
IsHeldFor false a b = b ≡ a

-- the room is given up where it was kept
abbrev pub given_if : {A : Type 0} → Bool → ConnOf A → ConnOf A
given_if true c = gave_up None c
given_if false c = c
