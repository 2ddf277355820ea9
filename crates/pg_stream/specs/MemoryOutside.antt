-- What is seen of a source and of a sink in memory.
use Rattle.std.specs.Prelude.{◌≡◌, ℕ, ◌+◌, ◌-◌, ◌^◌, ◌⊎◌, min, max, nat_eq, cond, Bool, false, List, length, Some}
use Rattle.std.specs.List.{list_any}
use Rattle.pg_stream.specs.declared.outside.SourceRead.{SourceRead}
use Rattle.pg_stream.specs.declared.outside.SourceRead.TheVariants as reads
use Rattle.pg_stream.specs.declared.outside.SinkWrite.{SinkWrite}
use Rattle.pg_stream.specs.declared.outside.SinkWrite.TheVariants as writes
use Rattle.pg_stream.specs.Outside.{SourceSeen, SinkSeen}

-- A source in memory: the bytes that are left, the most that one read gives, the calls that fail, and the calls and failures so far.
pub record MemorySourceState : Type 0 where
  pub left : List ℕ
  pub most : ℕ
  pub failing : List ℕ
  pub calls : ℕ
  pub faults : ℕ

-- A sink in memory: the bytes that it took, the calls that fail, and the calls and failures so far.
pub record MemorySinkState : Type 0 where
  pub taken : List ℕ
  pub failing : List ℕ
  pub calls : ℕ
  pub faults : ℕ

abbrev pub source_seen : MemorySourceState → SourceSeen
source_seen s = record { left = Some s.left; faults = s.faults }

abbrev pub sink_seen : MemorySinkState → SinkSeen
sink_seen s = record { taken = Some s.taken; faults = s.faults }

-- the number of the next call; it stops at its type's end
abbrev pub next_call : ℕ → ℕ
next_call calls = min (calls + 1) (2 ^ 64 - 1)

-- the next call is one of those that fail
abbrev pub fails_next : List ℕ → ℕ → Bool
fails_next failing calls = list_any (λ n. nat_eq n (next_call calls)) failing

-- what a read of so many bytes gives
abbrev pub source_read : MemorySourceState → ℕ → SourceRead
source_read s size = cond (fails_next s.failing s.calls) reads.Failed (cond (nat_eq (length s.left) 0) reads.End (reads.Moved (min (min (length s.left) (max s.most 1)) size)))

pub record SourceFollows (a b : MemorySourceState) (answer : SourceRead) (size : ℕ) : Type 0 where
  pub answers : answer ≡ source_read a size
  pub most : b.most ≡ a.most
  pub failing : b.failing ≡ a.failing
  pub calls : b.calls ≡ next_call a.calls

-- a write takes all, or fails: where its call is to fail, and for want of memory
pub record SinkFollows (a b : MemorySinkState) (answer : SinkWrite) (size : ℕ) : Type 0 where
  pub answers : (answer ≡ writes.Failed) ⊎ ((answer ≡ writes.Moved size) × (fails_next a.failing a.calls ≡ false))
  pub failing : b.failing ≡ a.failing
  pub calls : b.calls ≡ next_call a.calls
