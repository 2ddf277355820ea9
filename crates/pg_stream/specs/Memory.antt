-- What is seen of a link in memory: all bytes, the places of its waits, and its counts.
use Rattle.std.specs.Prelude.{◌≡◌, ℕ, ◌-◌, ◌++◌, ◌⊎◌, min, max, drop, List, [], ◌∷◌, Bool, true, Option, Some, None, IfSome, nat_le, if◌then◌else◌}
use Rattle.pg_stream.specs.declared.events.ReadEvent.{ReadEvent}
use Rattle.pg_stream.specs.declared.events.WriteEvent.{WriteEvent}
use Rattle.pg_stream.specs.declared.events.WriteEvent.TheVariants.{Take, Wait, Fail}
use Rattle.pg_stream.specs.declared.link.LinkRead.{LinkRead}
use Rattle.pg_stream.specs.declared.link.LinkRead.TheVariants as reads
use Rattle.pg_stream.specs.declared.link.LinkWrite.{LinkWrite}
use Rattle.pg_stream.specs.declared.link.LinkWrite.TheVariants as writes
use Rattle.pg_stream.specs.declared.memory.MemoryLink.{MemoryLink}
use Rattle.pg_stream.specs.Links.{LinkPlan, LinkSeen, asked_none}
use Rattle.pg_stream.specs.Events.{pieces_in, given_by, places_by, ahead_of, IsRead, IsFull}

-- what a link in memory was made with
abbrev pub plan_of : MemoryLink → LinkPlan
plan_of m = record { reads = m.reads.events; writes = m.writes; can_upgrade = m.can_upgrade; is_local = m.is_local }

abbrev pub seen_of : MemoryLink → LinkSeen
seen_of m = record {
  plan = plan_of m;
  secured = m.secured;
  given = Some (given_by m.reads);
  taken = Some m.taken.items;
  wait_places = Some (places_by m.reads);
  read_places = None;
  asked = m.asked;
  calls = m.calls;
  moved = m.moved;
  read_waits = m.read_waits;
  write_waits = m.write_waits;
  ends = m.ends;
  faults = m.faults;
  upgrade_faults = m.upgrade_faults;
}

-- what is seen of a link that was not called yet
abbrev pub untouched : LinkPlan → LinkSeen
untouched made = record {
  plan = made;
  secured = None;
  given = Some [];
  taken = Some [];
  wait_places = Some [];
  read_places = None;
  asked = asked_none;
  calls = 0;
  moved = 0;
  read_waits = 0;
  write_waits = 0;
  ends = 0;
  faults = 0;
  upgrade_faults = 0;
}

-- the bytes of all its pieces
abbrev pub pieces_of : MemoryLink → List ℕ
pieces_of m = pieces_in (plan_of m).reads

-- the read events that are ahead; of the next piece only what was not given yet
abbrev pub reads_ahead : MemoryLink → List ReadEvent
reads_ahead m = ahead_of m.reads

-- what is left of a write event behind so many writes
abbrev pub left_in : ℕ → WriteEvent → WriteEvent
left_in n (Take most times) = Take most (times - n)
left_in n event = event

-- it says no write behind the next one
abbrev pub is_last : WriteEvent → Bool
is_last (Take most times) = nat_le times 1
is_last event = true

abbrev pub cut_writes : ℕ → List WriteEvent → List WriteEvent
cut_writes n [] = []
cut_writes n (event ∷ events) = left_in n event ∷ events

-- the write events that are ahead; of the next one only the writes that are still to come
abbrev pub writes_ahead : MemoryLink → List WriteEvent
writes_ahead m = cut_writes m.takes_passed (drop m.writes_passed m.writes)

-- the bytes that are still to come
abbrev pub left_of : MemoryLink → List ℕ
left_of m = pieces_in (reads_ahead m)

-- what a link in memory gave, and then what is still to come, are the bytes of its pieces
abbrev pub GivesItsPieces : Type 0
GivesItsPieces = (m : MemoryLink) → IfSome (seen_of m).given (λ given. given ++ left_of m ≡ pieces_of m)

-- a read of so many bytes does what the events ahead say, unless more waits were passed than `usize` counts
abbrev pub ReadFollows : MemoryLink → MemoryLink → LinkRead → ℕ → Type 0
ReadFollows a b answer size = IsRead a.reads b.reads answer size ⊎ (IsFull b.reads × (answer ≡ reads.Failed))

-- the event that says the next write, and the events that are ahead behind that write
abbrev pub next_write : List WriteEvent → Option WriteEvent × List WriteEvent
next_write [] = (None, [])
next_write (event ∷ events) = (Some event, if is_last event then events else left_in 1 event ∷ events)

-- what the next write of so many bytes answers; after the list it takes all
abbrev pub written : ℕ → Option WriteEvent → LinkWrite
written size None = writes.Moved size
written size (Some (Take most times)) = writes.Moved (min (max most 1) size)
written size (Some Wait) = writes.NotYet
written size (Some Fail) = writes.Failed

-- one write of so many bytes: its answer, and the events that are then ahead
abbrev pub write_of : ℕ → List WriteEvent → LinkWrite × List WriteEvent
write_of size events = (written size (next_write events).0, (next_write events).1)

-- a write that is to take bytes fails where there is no memory for them
abbrev pub AnswersAs : LinkWrite → LinkWrite → Type 0
AnswersAs (writes.Moved n) answer = (answer ≡ writes.Moved n) ⊎ (answer ≡ writes.Failed)
AnswersAs told answer = answer ≡ told

-- a write of so many bytes does what the events ahead say, or fails for want of memory
pub record WriteFollows (a b : MemoryLink) (answer : LinkWrite) (size : ℕ) : Type 0 where
  pub answers : AnswersAs (write_of size (writes_ahead a)).0 answer
  pub ahead : writes_ahead b ≡ (write_of size (writes_ahead a)).1

-- the next write is taken off the events
abbrev pub TakesFirst : List WriteEvent → Option WriteEvent → List WriteEvent → Type 0
TakesFirst events event rest = next_write events ≡ (event, rest)
