-- The array of an iterator's items (PostgreSQL manual, "Arrays").
use Rattle.std.specs.Prelude.{ℕ, zero, suc, ◌≡◌, ◌+◌, ◌==◌, ◌&&◌, ◌⊎◌, not, nat_lt, if◌then◌else◌, Bool, true, false, List, [], ◌∷◌, length, Option, Some, None}
use Rattle.pg_wire.specs.declared.error.Error.{Error}
use Rattle.pg_wire.specs.declared.error.Error.TheVariants as errors
use Rattle.pg_arguments.specs.Types.{TypeParts}
use Rattle.pg_arguments.specs.Encoded.{Encoded}
use Rattle.pg_arguments.specs.Encoding.{Encoding, Refused}
use Rattle.pg_arguments.specs.Arrays.{elements, array_encoding, AddsElements}

-- the answers behind the first
abbrev pub behind : {A : Type 0} → (ℕ → Option A) → ℕ → Option A
behind answers k = answers (suc k)

-- a call gives the first of the answers that are due, and the others stay due
abbrev pub GivesFirst : {S A : Type 0} → (S → ℕ → Option A) → S → Option A → S → Type 0
GivesFirst answers s r t = (r ≡ answers s 0) × ((k : ℕ) → answers t k ≡ answers s (suc k))

abbrev pub first_and : {A : Type 0} → Option A → List A → List A
first_and None xs = []
first_and (Some x) xs = x ∷ xs

-- the items up to the end, at most so many
unfoldable pub items_in : {A : Type 0} → ℕ → (ℕ → Option A) → List A
items_in zero answers = []
items_in (suc n) answers = first_and (answers 0) (items_in n (behind answers))

abbrev pub comes : {A : Type 0} → Option A → Bool
comes None = false
comes (Some x) = true

-- n items came, of at most so many: whether the next call gives one more. An iterator that gave none is not asked again.
abbrev pub goes_on : {A : Type 0} → ℕ → (ℕ → Option A) → ℕ → Bool
goes_on most answers n = not (n == 0) && comes (if nat_lt n most then answers (n + 1) else answers n)

-- the array of the items; an iterator that goes on behind its end, or past so many items, has none
abbrev pub encoding_unless : Bool → Encoding → Encoding
encoding_unless true e = Refused
encoding_unless false e = e

abbrev pub iterated : {A : Type 0} → ℕ → TypeParts → (A → Encoding) → (ℕ → Option A) → Encoding
iterated most of encoding answers = encoding_unless (goes_on most answers (length (items_in most answers))) (array_encoding of (elements encoding (items_in most answers)))

abbrev pub iterated_encoding : {A : Type 0} → TypeParts → (A → Encoding) → (ℕ → Option A) → Encoding
iterated_encoding of encoding answers = iterated 2147483647 of encoding answers

-- the items are added, and the iterator goes on no further
abbrev pub AddsItems : {A : Type 0} → ℕ → (A → Encoding) → (ℕ → Option A) → ℕ → Encoded → Encoded → Type 0
AddsItems most encoding answers n old new = (n ≡ length (items_in most answers)) × (goes_on most answers n ≡ false) × AddsElements (elements encoding (items_in most answers)) old new

-- only an iterator that goes on, or that gives an item without an encoding, is refused, but for want of memory
abbrev pub RefusesItems : {A : Type 0} → ℕ → (A → Encoding) → (ℕ → Option A) → Error → Type 0
RefusesItems most encoding answers errors.OutOfMemory = Unit {0}
RefusesItems most encoding answers (errors.Encode index) = (goes_on most answers (length (items_in most answers)) ≡ true) ⊎ (elements encoding (items_in most answers) ≡ None)
RefusesItems most encoding answers _ = ⊥
