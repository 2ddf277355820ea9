-- The histories of a pool that one thread could have made, and what the pool is behind one.
use Rattle.std.specs.Prelude.{ℕ, ◌+◌, ◌≡◌, ◌≤◌, Bool, true, false, ◌&&◌, nat_eq, ltb, not, List, [], ◌∷◌, ◌++◌, length, drop}
use Rattle.std.specs.Bool.{if◌then◌else◌}
use Rattle.std.specs.List.{list_any}
use Rattle.pg_wire.specs.declared.pool.PoolAct.{PoolAct}
use Rattle.pg_wire.specs.declared.pool.PoolAct.TheVariants.{GotIdle, GotNew, Full, WasClosed, Kept, Dropped, Close}
use Rattle.pg_wire.specs.declared.pool.PoolEntry.{PoolEntry}

-- the ids of the idle connections, the longest idle first; the ids that are out; the next new id
pub record PoolState : Type 0 where
  pub idle : List ℕ
  pub out : List ℕ
  pub next : ℕ
  pub closed : Bool

abbrev pub fresh : PoolState
fresh = record { idle = []; out = []; next = 0; closed = false }

abbrev pub has : ℕ → List ℕ → Bool
has id ids = list_any (λ other. nat_eq other id) ids

abbrev pub has_first : ℕ → List ℕ → Bool
has_first id [] = false
has_first id (other ∷ ids) = nat_eq other id

-- how many stand before the first of these ids
abbrev pub place_of : ℕ → List ℕ → ℕ
place_of id [] = 0
place_of id (other ∷ ids) = if nat_eq other id then 0 else place_of id ids + 1

-- less the first of these ids
abbrev pub without : ℕ → List ℕ → List ℕ
without id [] = []
without id (other ∷ ids) = if nat_eq other id then ids else other ∷ without id ids

-- whether a pool of this maximum may do this
abbrev pub may : ℕ → PoolState → PoolAct → Bool
may most s (GotIdle id) = not s.closed && has_first id s.idle
may most s (GotNew id) = not s.closed && nat_eq (length s.idle) 0 && ltb (length s.out) most && nat_eq id s.next
may most s (Full out idle) = not s.closed && nat_eq idle 0 && nat_eq (length s.idle) 0 && nat_eq out (length s.out) && nat_eq out most
may most s WasClosed = s.closed
may most s (Kept id) = not s.closed && has id s.out
may most s (Dropped id) = has id s.out
may most s Close = true

abbrev pub after : PoolState → PoolAct → PoolState
after s (GotIdle id) = record s { idle = drop 1 s.idle; out = s.out ++ id ∷ [] }
after s (GotNew id) = record s { out = s.out ++ id ∷ []; next = s.next + 1 }
after s (Full out idle) = s
after s WasClosed = s
after s (Kept id) = record s { idle = s.idle ++ id ∷ []; out = without id s.out }
after s (Dropped id) = record s { out = without id s.out }
after s Close = record s { idle = []; closed = true }

abbrev pub state_after : PoolState → List PoolEntry → PoolState
state_after s [] = s
state_after s (e ∷ es) = state_after (after s e.act) es

abbrev pub is_legal : ℕ → PoolState → List PoolEntry → Bool
is_legal most s [] = true
is_legal most s (e ∷ es) = may most s e.act && is_legal most (after s e.act) es

abbrev pub state_of : List PoolEntry → PoolState
state_of es = state_after fresh es

abbrev pub PoolHistory : ℕ → List PoolEntry → Type 0
PoolHistory most es = is_legal most fresh es ≡ true

-- what an acquire is answered
abbrev pub is_got : PoolAct → Bool
is_got (GotIdle id) = true
is_got (GotNew id) = true
is_got (Full out idle) = true
is_got WasClosed = true
is_got (Kept id) = false
is_got (Dropped id) = false
is_got Close = false

abbrev pub acquires : ℕ → PoolState → PoolAct → Type 0
acquires most s act = (may most s act ≡ true) × (is_got act ≡ true)
