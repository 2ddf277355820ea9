-- Reading a binary array from left to right, as the private readers do. The grammar itself is in Arrays.
use Rattle.std.specs.Prelude.{ℕ, ◌≡◌, ◌^◌, nat_lt, nat_le, ◌==◌, if◌then◌else◌, List, [], length, Option, Some, None}
use Rattle.pg_wire.specs.Reading.{◌>>=◌, Reader, number32_at, value_at, many_at}
use Rattle.pg_values.specs.Arrays.{ReadsEach}

-- the dimensions, where the flags are 0 or 1; the type of the elements is passed over
unfoldable pub dimensions_at : Reader ℕ
dimensions_at bytes = do
  dimensions ← number32_at bytes
  flags ← number32_at dimensions.1
  element ← number32_at flags.1
  if nat_le flags.0 1 then Some (dimensions.0, element.1) else None

-- the number of elements behind one dimension; the index of the first is passed over
unfoldable pub count_at : Reader ℕ
count_at bytes = do
  n ← number32_at bytes
  first ← number32_at n.1
  if nat_lt n.0 (2 ^ 31) then Some (n.0, first.1) else None

-- the number of elements, and their bytes
unfoldable pub head_at : Reader ℕ
head_at bytes = do
  dimensions ← dimensions_at bytes
  if dimensions.0 == 0 then (if length dimensions.1 == 0 then Some (0, []) else None) else if dimensions.0 == 1 then count_at dimensions.1 else None

-- so many values, which are all of the bytes, are read as these elements
abbrev pub ReadsElements : {X : Type 0} → (Option (List ℕ) → X → Type 0) → ℕ → List ℕ → List X → Type 0
ReadsElements reads count bytes xs = (values : List (Option (List ℕ))) × (many_at value_at count bytes ≡ Some (values, [])) × ReadsEach reads values xs

-- the array whose head is read so
abbrev pub ReadsArray : {X : Type 0} → (Option (List ℕ) → X → Type 0) → List ℕ → List X → Type 0
ReadsArray reads bytes xs = (n : ℕ) × (rest : List ℕ) × (head_at bytes ≡ Some (n, rest)) × ReadsElements reads n rest xs
