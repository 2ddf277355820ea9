-- Advisory locks that guards hold on a connection (PostgreSQL manual, "Explicit Locking", "Advisory Locks"), and the room for the texts that release them.
use Rattle.std.specs.Prelude.{◌≤◌, ℕ, ◌+◌, ◌-◌, nat_eq, List, [], ◌∷◌, length, Option, Some, None, if◌then◌else◌}
use Rattle.pg_wire.specs.Bytes.{HasNoNul}
use Rattle.pg_wire.specs.Frontend.{FrontendMessage, Query}
use Rattle.pg_call.specs.Requests.{spelled}
use Rattle.pg_conn.specs.Connections.{ConnOf, counted_anew, ended, left, queued_group}

-- a Query that releases a lock by this text
abbrev pub release : List ℕ → List FrontendMessage
release text = Query text ∷ []

-- a text that may release one: it has no zero byte, and 51 bytes at most, which the two keys of a lock need
abbrev pub IsRelease : List ℕ → Type 0
IsRelease text = (length text ≤ 51) × HasNoNul text

-- one more is held, or is to be
abbrev pub held_more : {A : Type 0} → ConnOf A → ConnOf A
held_more c = record c { held = c.held + 1 }

abbrev pub held_fewer : {A : Type 0} → ConnOf A → ConnOf A
held_fewer c = record c { held = c.held - 1 }

-- where there is a text, it is queued, and no call waits for it
abbrev pub released : {A : Type 0} → Option (List ℕ) → ConnOf A → ConnOf A
released None c = c
released (Some text) c = queued_group (spelled (release text)) c

-- one is held no more, where any was
abbrev pub let_go : {A : Type 0} → Option (List ℕ) → ConnOf A → ConnOf A
let_go unlock c = if nat_eq c.held 0 then c else released unlock (held_fewer c)

-- a call that runs is given up before that
abbrev pub gave_up : {A : Type 0} → Option (List ℕ) → ConnOf A → ConnOf A
gave_up unlock c = let_go unlock (ended (left c))

-- the same as an act of its own, whose numbers are counted from zero: where none is held nothing is done
abbrev pub took_held : {A : Type 0} → Option (List ℕ) → ConnOf A → ConnOf A
took_held unlock c = if nat_eq c.held 0 then c else let_go unlock (ended (counted_anew (left c)))
