-- What is seen of the receive buffer.
use Rattle.std.specs.Prelude.{◌≡◌, ℕ, ◌+◌, ◌*◌, ◌≤◌, max, List, [], ◌++◌, take, length}
use Rattle.pg_stream.specs.declared.link.LinkRead.{LinkRead}
use Rattle.pg_stream.specs.declared.link.LinkRead.TheVariants as reads
use Rattle.pg_stream.specs.Links.{LinkSeen, Reads}

pub record ReceivedSeen : Type 0 where
  -- received, and to be handed out
  pub shared : List ℕ
  -- received behind it
  pub own : List ℕ
  -- how many more bytes it takes without memory
  pub room : ℕ

abbrev pub bytes_in : ReceivedSeen → List ℕ
bytes_in r = r.shared ++ r.own

-- the room that a buffer with so many bytes may have
abbrev pub room_for : ℕ → ℕ
room_for size = 131072 + 2 * size

-- how many bytes a read gave
abbrev pub size_of : LinkRead → ℕ
size_of (reads.Moved n) = n
size_of _ = 0

-- what a read gave of the bytes that it wrote
abbrev pub given_of : LinkRead → List ℕ → List ℕ
given_of (reads.Moved n) into = take n into
given_of _ into = []

-- one read of 8192 bytes: what it gave stands behind what was there, and the room grows only by what came before
pub record ReadsOnto (a b : LinkSeen) (old new : ReceivedSeen) (answer : LinkRead) : Type 0 where
  pub into : List ℕ
  pub reads : Reads a b answer into
  pub asked : length into ≡ 8192
  pub bytes : bytes_in new ≡ bytes_in old ++ given_of answer into
  pub room : new.room ≤ max old.room (room_for (length (bytes_in old)))
