-- What is seen of a source and of a sink.
use Rattle.std.specs.Prelude.{ℕ, ◌<◌, ◌≤◌, ◌≡◌, ◌++◌, List, take, length, Option, Some, None, Bool, true, false}
use Rattle.std.specs.Io.KnownBytes.{Keeps, Appends, Consumes, IsAtEnd}
use Rattle.pg_stream.specs.Links.{Rose}
use Rattle.pg_stream.specs.declared.outside.SourceRead.{SourceRead}
use Rattle.pg_stream.specs.declared.outside.SourceRead.TheVariants as reads
use Rattle.pg_stream.specs.declared.outside.SinkWrite.{SinkWrite}
use Rattle.pg_stream.specs.declared.outside.SinkWrite.TheVariants as writes
use Rattle.pg_stream.specs.declared.gather.Gathered.{Gathered}
use Rattle.pg_stream.specs.declared.gather.Gathered.TheVariants as gathered

pub record SourceSeen : Type 0 where
  -- the bytes that are left, where it tells them
  pub left : Option (List ℕ)
  -- reads that answered Failed
  pub faults : ℕ

pub record SinkSeen : Type 0 where
  -- all bytes that it took, where it tells them
  pub taken : Option (List ℕ)
  -- writes that answered Failed
  pub faults : ℕ

-- what a read's answer says of the bytes left and of the faults
abbrev pub SourceReads : SourceSeen → SourceSeen → SourceRead → List ℕ → Type 0
SourceReads a b (reads.Moved n) into = (0 < n) × (n ≤ length into) × Consumes a.left b.left (take n into) × (b.faults ≡ a.faults)
SourceReads a b reads.End into = Keeps a.left b.left × IsAtEnd b.left × (b.faults ≡ a.faults)
SourceReads a b reads.Failed into = Keeps a.left b.left × Rose a.faults b.faults

-- what a write's answer says of the bytes taken and of the faults
abbrev pub SinkTakes : SinkSeen → SinkSeen → SinkWrite → List ℕ → Type 0
SinkTakes a b (writes.Moved n) from = (0 < n) × (n ≤ length from) × Appends a.taken b.taken (take n from) × (b.faults ≡ a.faults)
SinkTakes a b writes.Failed from = Keeps a.taken b.taken × Rose a.faults b.faults

-- all of a text was written; or a front of it, and then a write failed
abbrev pub Sent : SinkSeen → SinkSeen → Bool → List ℕ → Type 0
Sent a b true text = Appends a.taken b.taken text × (b.faults ≡ a.faults)
Sent a b false text = (n : ℕ) × Appends a.taken b.taken (take n text) × Rose a.faults b.faults

-- the bytes that were read, and why no more of them
abbrev pub ReadAll : SourceSeen → SourceSeen → Gathered → List ℕ → Type 0
ReadAll a b gathered.Whole bytes = Consumes a.left b.left bytes × IsAtEnd b.left × (b.faults ≡ a.faults) × (length bytes ≤ 67108864)
ReadAll a b gathered.TooLong bytes = Consumes a.left b.left bytes × (67108864 < length bytes) × (b.faults ≡ a.faults)
ReadAll a b gathered.Failed bytes = Consumes a.left b.left bytes × Rose a.faults b.faults
ReadAll a b gathered.OutOfMemory bytes = b.faults ≡ a.faults

-- what one read adds, or how reading ends
abbrev pub GathersOnce : SourceSeen → SourceSeen → Option Gathered → List ℕ → List ℕ → Type 0
GathersOnce a b None old new = (piece : List ℕ) × (new ≡ old ++ piece) × (0 < length piece) × Consumes a.left b.left piece × (b.faults ≡ a.faults)
GathersOnce a b (Some gathered.Whole) old new = Keeps a.left b.left × IsAtEnd b.left × (b.faults ≡ a.faults) × (new ≡ old)
GathersOnce a b (Some gathered.TooLong) old new = ⊥
GathersOnce a b (Some gathered.Failed) old new = Keeps a.left b.left × Rose a.faults b.faults × (new ≡ old)
GathersOnce a b (Some gathered.OutOfMemory) old new = b.faults ≡ a.faults
