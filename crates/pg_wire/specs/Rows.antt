-- Internal: where the values of a row stand in the body of its message, and lists that are passed over.
use Rattle.std.specs.Prelude.{ℕ, ◌≤◌, List, length, drop, Option, Some, None, IsSome, option_map, ◌==◌, if◌then◌else◌}
use Rattle.pg_wire.specs.Backend.{BackendMessage}
use Rattle.pg_wire.specs.Decoding.{Says}
use Rattle.pg_wire.specs.Reading.{◌>>=◌, Reader, number16_at, value_at, many_at}

abbrev pub value_first : Option (Option (List ℕ) × List ℕ) → Option (List ℕ)
value_first (Some x) = x.0
value_first None = None

-- the value whose length stands at this place
abbrev pub value_by : List ℕ → ℕ → Option (List ℕ)
value_by body place = value_first (value_at (drop place body))

-- a value stands there
abbrev pub IsPlace : List ℕ → ℕ → Type 0
IsPlace body place = (place ≤ length body) × IsSome (value_at (drop place body))

-- no row has this body
abbrev pub IsNoRow : List ℕ → Type 0
IsNoRow body = (m : BackendMessage) → Says 68 body m → ⊥

-- the bytes behind one
abbrev pub rest_at : {A : Type 0} → Reader A → List ℕ → Option (List ℕ)
rest_at item bytes = option_map (λ x. x.1) (item bytes)

-- the bytes behind so many of one kind
abbrev pub passed : {A : Type 0} → Reader A → ℕ → List ℕ → Option (List ℕ)
passed item count bytes = rest_at (many_at item count) bytes

-- the count of a list that is all of the bytes
abbrev pub count_passed : {A : Type 0} → Reader A → List ℕ → Option ℕ
count_passed item bytes = do
  n ← number16_at bytes
  rest ← passed item n.0 n.1
  if length rest == 0 then Some n.0 else None
