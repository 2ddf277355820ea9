-- What is seen of a link: the bytes that it gave and took, where it tells them, and its counts.
use Rattle.std.specs.Prelude.{◌≡◌, ℕ, Bool, ◌+◌, ◌-◌, ◌^◌, ◌<◌, ◌≤◌, min, max, List, [], ◌∷◌, take, length, Option, Some, None}
use Rattle.std.specs.Io.KnownBytes.{Keeps, Appends}
use Rattle.pg_stream.specs.declared.events.ReadEvent.{ReadEvent}
use Rattle.pg_stream.specs.declared.events.WriteEvent.{WriteEvent}
use Rattle.pg_stream.specs.declared.link.Asked.{Asked}
use Rattle.pg_stream.specs.declared.link.TlsWish.{TlsWish}
use Rattle.pg_stream.specs.declared.link.LinkRead.{LinkRead}
use Rattle.pg_stream.specs.declared.link.LinkRead.TheVariants as reads
use Rattle.pg_stream.specs.declared.link.LinkWrite.{LinkWrite}
use Rattle.pg_stream.specs.declared.link.LinkWrite.TheVariants as writes
use Rattle.pg_stream.specs.declared.link.LinkUpgrade.{LinkUpgrade}
use Rattle.pg_stream.specs.declared.link.LinkUpgrade.TheVariants as upgrades

-- What a link is made of: the events that a link in memory answers by, and whether it can be asked for TLS, and has both ends on this
-- machine. A link over a socket has no events.
pub record LinkPlan : Type 0 where
  pub reads : List ReadEvent
  pub writes : List WriteEvent
  pub can_upgrade : Bool
  pub is_local : Bool

pub record LinkSeen : Type 0 where
  pub plan : LinkPlan
  -- what the last TLS handshake that was made had to verify
  pub secured : Option TlsWish
  -- all bytes that reads gave, and that writes took
  pub given : Option (List ℕ)
  pub taken : Option (List ℕ)
  -- for each read that answered NotYet, how many bytes had been given before it
  pub wait_places : Option (List ℕ)
  -- for each read, how many bytes had been taken before it
  pub read_places : Option (List ℕ)
  -- how many bytes reads asked for
  pub asked : Asked
  -- reads, writes and upgrades, whatever they answered
  pub calls : ℕ
  -- calls that answered Moved or Done
  pub moved : ℕ
  -- reads and upgrades that answered NotYet
  pub read_waits : ℕ
  pub write_waits : ℕ
  pub ends : ℕ
  -- reads and writes that answered Failed
  pub faults : ℕ
  pub upgrade_faults : ℕ

abbrev pub asked_none : Asked
asked_none = record { least = 2 ^ 64 - 1; most = 0 }

-- one more read asked for so many bytes
abbrev pub asked_with : Asked → ℕ → Asked
asked_with a bytes = record { least = min a.least bytes; most = max a.most bytes }

-- a count rose by so many at least, or stands at its type's end
abbrev pub RoseBy : ℕ → ℕ → ℕ → Type 0
RoseBy n before now = min (before + n) (2 ^ 64 - 1) ≤ now

abbrev pub Rose : ℕ → ℕ → Type 0
Rose before now = RoseBy 1 before now

-- a number grew by so many, or stands at its type's end
abbrev pub GrewBy : ℕ → ℕ → ℕ → Type 0
GrewBy n old new = (old ≤ new) × (new ≤ old + n) × RoseBy n old new

-- what was told is told still, the same or more
abbrev pub StillTold : Option (List ℕ) → Option (List ℕ) → Type 0
StillTold None now = Unit {0}
StillTold (Some before) None = ⊥
StillTold (Some before) (Some now) = Unit {0}

-- no count falls, and the link is the one that was made
pub record NoneFalls (a b : LinkSeen) : Type 0 where
  pub plan : b.plan ≡ a.plan
  pub places : StillTold a.wait_places b.wait_places
  pub calls : a.calls ≤ b.calls
  pub moved : a.moved ≤ b.moved
  pub read_waits : a.read_waits ≤ b.read_waits
  pub write_waits : a.write_waits ≤ b.write_waits
  pub ends : a.ends ≤ b.ends
  pub faults : a.faults ≤ b.faults
  pub upgrade_faults : a.upgrade_faults ≤ b.upgrade_faults

-- by how much each count rises in one call
pub record Rises : Type 0 where
  pub moved : ℕ
  pub read_waits : ℕ
  pub write_waits : ℕ
  pub ends : ℕ
  pub faults : ℕ
  pub upgrade_faults : ℕ

abbrev pub no_rise : Rises
no_rise = record { moved = 0; read_waits = 0; write_waits = 0; ends = 0; faults = 0; upgrade_faults = 0 }

-- each answer raises one count
abbrev pub read_rises : LinkRead → Rises
read_rises (reads.Moved n) = record no_rise { moved = 1 }
read_rises reads.NotYet = record no_rise { read_waits = 1 }
read_rises reads.End = record no_rise { ends = 1 }
read_rises reads.Failed = record no_rise { faults = 1 }

abbrev pub write_rises : LinkWrite → Rises
write_rises (writes.Moved n) = record no_rise { moved = 1 }
write_rises writes.NotYet = record no_rise { write_waits = 1 }
write_rises writes.Failed = record no_rise { faults = 1 }

abbrev pub upgrade_rises : LinkUpgrade → Rises
upgrade_rises upgrades.Done = record no_rise { moved = 1 }
upgrade_rises upgrades.NotYet = record no_rise { read_waits = 1 }
upgrade_rises upgrades.Failed = record no_rise { upgrade_faults = 1 }

-- one call was counted, and every other count rose by as much as its answer says; the link is the one that was made
pub record Counts (a b : LinkSeen) (rises : Rises) : Type 0 where
  pub plan : b.plan ≡ a.plan
  pub places : StillTold a.wait_places b.wait_places
  pub calls : GrewBy 1 a.calls b.calls
  pub moved : GrewBy rises.moved a.moved b.moved
  pub read_waits : GrewBy rises.read_waits a.read_waits b.read_waits
  pub write_waits : GrewBy rises.write_waits a.write_waits b.write_waits
  pub ends : GrewBy rises.ends a.ends b.ends
  pub faults : GrewBy rises.faults a.faults b.faults
  pub upgrade_faults : GrewBy rises.upgrade_faults a.upgrade_faults b.upgrade_faults

-- no call waited
abbrev pub NoWaits : LinkSeen → LinkSeen → Type 0
NoWaits a b = (b.write_waits ≡ a.write_waits) × (b.read_waits ≡ a.read_waits)

-- one more place, which is the number of these bytes by now
abbrev pub AddsPlace : Option (List ℕ) → Option (List ℕ) → Option (List ℕ) → Type 0
AddsPlace None old new = Unit {0}
AddsPlace (Some bytes) old new = Appends old new (length bytes ∷ [])

-- what a read's answer says of the bytes given
abbrev pub ReadGives : LinkSeen → LinkSeen → LinkRead → List ℕ → Type 0
ReadGives a b (reads.Moved n) into = (0 < n) × (n ≤ length into) × Appends a.given b.given (take n into) × Keeps a.wait_places b.wait_places
ReadGives a b reads.NotYet into = Keeps a.given b.given × AddsPlace b.given a.wait_places b.wait_places
ReadGives a b reads.End into = Keeps a.given b.given × Keeps a.wait_places b.wait_places
ReadGives a b reads.Failed into = Keeps a.given b.given × Keeps a.wait_places b.wait_places

pub record Reads (a b : LinkSeen) (answer : LinkRead) (into : List ℕ) : Type 0 where
  pub counts : Counts a b (read_rises answer)
  pub secured : b.secured ≡ a.secured
  pub asked : b.asked ≡ asked_with a.asked (length into)
  pub taken : Keeps a.taken b.taken
  pub place : AddsPlace b.taken a.read_places b.read_places
  pub gives : ReadGives a b answer into

-- what a write's answer says of the bytes taken
abbrev pub WriteTakes : LinkSeen → LinkSeen → LinkWrite → List ℕ → Type 0
WriteTakes a b (writes.Moved n) from = (0 < n) × (n ≤ length from) × Appends a.taken b.taken (take n from)
WriteTakes a b writes.NotYet from = Keeps a.taken b.taken
WriteTakes a b writes.Failed from = Keeps a.taken b.taken

pub record Writes (a b : LinkSeen) (answer : LinkWrite) (from : List ℕ) : Type 0 where
  pub counts : Counts a b (write_rises answer)
  pub secured : b.secured ≡ a.secured
  pub asked : b.asked ≡ a.asked
  pub given : Keeps a.given b.given
  pub places : Keeps a.wait_places b.wait_places
  pub order : Keeps a.read_places b.read_places
  pub takes : WriteTakes a b answer from

-- a handshake that is made had to verify what was wished
abbrev pub SecuredBy : TlsWish → Option TlsWish → Option TlsWish → LinkUpgrade → Type 0
SecuredBy wish before now upgrades.Done = now ≡ Some wish
SecuredBy wish before now _ = now ≡ before

-- an upgrade moves no bytes of the stream that it changes
pub record Upgrades (a b : LinkSeen) (wish : TlsWish) (answer : LinkUpgrade) : Type 0 where
  pub counts : Counts a b (upgrade_rises answer)
  pub secured : SecuredBy wish a.secured b.secured answer
  pub asked : b.asked ≡ a.asked
  pub given : Keeps a.given b.given
  pub taken : Keeps a.taken b.taken
  pub places : Keeps a.wait_places b.wait_places
  pub order : Keeps a.read_places b.read_places
