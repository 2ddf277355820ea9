-- A list of read events, and a place in it: so many events were passed, and so many bytes of the next one were given.
use Rattle.std.specs.Prelude.{◌≡◌, ℕ, suc, zero, ◌+◌, ◌<◌, ◌-◌, ◌^◌, ◌≤◌, ◌⊎◌, min, Bool, true, false, List, [], ◌∷◌, ◌++◌, take, drop, length, get_or, flat_map}
use Rattle.pg_stream.specs.declared.events.ReadEvent.{ReadEvent}
use Rattle.pg_stream.specs.declared.events.ReadEvent.TheVariants.{Piece, Wait, End, Fail}
use Rattle.pg_stream.specs.declared.link.LinkRead.{LinkRead}
use Rattle.pg_stream.specs.declared.link.LinkRead.TheVariants as reads
use Rattle.pg_stream.specs.declared.read_list.ReadList.{ReadList}

-- the bytes that an event brings
abbrev pub bytes_in : ReadEvent → List ℕ
bytes_in (Piece bytes) = bytes
bytes_in _ = []

-- the bytes of all pieces, one after the other
abbrev pub pieces_in : List ReadEvent → List ℕ
pieces_in events = flat_map bytes_in events

-- the event behind the first n; after the list every read waits
abbrev pub event_at : ℕ → List ReadEvent → ReadEvent
event_at n events = get_or events n Wait

-- the first n events, with the waits after the list
abbrev pub passed_of : ℕ → List ReadEvent → List ReadEvent
passed_of zero events = []
passed_of (suc n) [] = Wait ∷ passed_of n []
passed_of (suc n) (event ∷ events) = event ∷ passed_of n events

-- for each wait, how many bytes were given before it, where so many were given before the first event
abbrev pub waits_in : ℕ → List ReadEvent → List ℕ
waits_in n [] = []
waits_in n (Piece bytes ∷ events) = waits_in (n + length bytes) events
waits_in n (Wait ∷ events) = n ∷ waits_in n events
waits_in n (End ∷ events) = waits_in n events
waits_in n (Fail ∷ events) = waits_in n events

-- the bytes given: those of the pieces passed, and the front of the next one
abbrev pub given_by : ReadList → List ℕ
given_by r = pieces_in (passed_of r.passed r.events) ++ take r.offset (bytes_in (event_at r.passed r.events))

-- for each wait that was passed, how many bytes had been given before it
abbrev pub places_by : ReadList → List ℕ
places_by r = waits_in 0 (passed_of r.passed r.events)

-- the events ahead: of the next piece only what was not given yet
abbrev pub cut_front : ℕ → List ReadEvent → List ReadEvent
cut_front n (Piece bytes ∷ events) = Piece (drop n bytes) ∷ events
cut_front n events = events

abbrev pub ahead_of : ReadList → List ReadEvent
ahead_of r = cut_front r.offset (drop r.passed r.events)

-- the bytes that are still to come
abbrev pub left_by : ReadList → List ℕ
left_by r = pieces_in (ahead_of r)

-- one read of so many bytes: its answer, and the events that are then ahead
abbrev pub read_of : ℕ → List ReadEvent → LinkRead × List ReadEvent
read_of size [] = (reads.NotYet, [])
read_of size (Wait ∷ events) = (reads.NotYet, events)
read_of size (End ∷ events) = (reads.End, events)
read_of size (Fail ∷ events) = (reads.Failed, events)
read_of size (Piece [] ∷ events) = read_of size events
read_of size (Piece (byte ∷ bytes) ∷ events) =
    (reads.Moved (min (length (byte ∷ bytes)) size), Piece (drop (min (length (byte ∷ bytes)) size) (byte ∷ bytes)) ∷ events)

-- the place moved on, and nothing was given and no wait was passed
pub record IsSamePlace (a b : ReadList) : Type 0 where
  pub events : b.events ≡ a.events
  pub given : given_by b ≡ given_by a
  pub places : places_by b ≡ places_by a
  pub reads : (size : ℕ) → read_of size (ahead_of b) ≡ read_of size (ahead_of a)

-- the next event is no piece of which nothing is left
abbrev pub IsOpenAt : ℕ → ReadEvent → Type 0
IsOpenAt offset (Piece bytes) = offset < length bytes
IsOpenAt offset _ = Unit {0}

-- whether the next event is a piece of which nothing is left
abbrev pub IsGivenAt : ReadList → Bool → Type 0
IsGivenAt r true = (bytes : List ℕ) × (r.passed < length r.events) × (event_at r.passed r.events ≡ Piece bytes) × (length bytes ≤ r.offset)
IsGivenAt r false = IsOpenAt r.offset (event_at r.passed r.events)

-- what one read gave
abbrev pub ListGives : ReadList → ReadList → LinkRead → List ℕ → Type 0
ListGives a b (reads.Moved n) into = (0 < n) × (n ≤ length into) × (given_by b ≡ given_by a ++ take n into) × (places_by b ≡ places_by a)
ListGives a b reads.NotYet into = (given_by b ≡ given_by a) × (places_by b ≡ places_by a ++ length (given_by a) ∷ [])
ListGives a b _ into = (given_by b ≡ given_by a) × (places_by b ≡ places_by a)

-- more waits than `usize` counts were passed
abbrev pub IsFull : ReadList → Type 0
IsFull r = r.passed ≡ 2 ^ 64 - 1

-- the answer and the events ahead are those that the events ahead said
abbrev pub IsRead : ReadList → ReadList → LinkRead → ℕ → Type 0
IsRead a b answer size = read_of size (ahead_of a) ≡ (answer, ahead_of b)

pub record ListReads (a b : ReadList) (answer : LinkRead) (into : List ℕ) : Type 0 where
  pub events : b.events ≡ a.events
  pub gives : ListGives a b answer into
  pub follows : IsRead a b answer (length into) ⊎ (IsFull b × (answer ≡ reads.Failed))
