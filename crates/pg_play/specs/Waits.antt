-- Where reads waited, and what had been given by then.
use Rattle.std.specs.Prelude.{◌≡◌, ℕ, ◌+◌, List, ◌++◌, length, Option, IfSome}
use Rattle.std.specs.Io.KnownBytes.{Appends}
use Rattle.std.specs.List.{AllByRecursion}
use Rattle.pg_wire.specs.Frame.{Frame, backend_tags, text_of}
use Rattle.pg_wire.specs.Cut.{Cuts}
use Rattle.pg_wire.specs.Server.{IsPrefixOf}
use Rattle.pg_stream.specs.Links.{GrewBy}
use Rattle.pg_stream.specs.Streams.{StreamSeen}

-- A read waited at this place: behind the old bytes of the link, where it tells them, and the early ones of these, which it gave later. The
-- frames are those taken of `front`, which the old bytes end with, and of these.
pub record IsWaitPlace (old : Option (List ℕ)) (front bytes : List ℕ) (frames : List Frame) (place : ℕ) : Type 0 where
  pub early : List ℕ
  pub first : IsPrefixOf early bytes
  pub place_is : IfSome old (λ given. place ≡ length given + length early)
  -- the whole frames that had come are all taken
  pub whole : List Frame
  pub rest : List ℕ
  pub cuts : Cuts backend_tags (front ++ early) whole rest
  pub taken : IsPrefixOf whole frames

-- Internal: between two states of a stream so many writes waited, and reads at these places.
pub record WaitsAt (a b : StreamSeen) (frames : List Frame) : Type 0 where
  pub bytes : List ℕ
  pub gave : Appends a.link.given b.link.given bytes
  pub read : a.held ++ bytes ≡ text_of frames ++ b.held
  pub places : List ℕ
  pub told : IfSome a.link.given (λ given. Appends a.link.wait_places b.link.wait_places places)
  pub write_waits : ℕ
  pub waits : GrewBy (write_waits + length places) a.waits b.waits
  pub writes : GrewBy write_waits a.link.write_waits b.link.write_waits
  pub behind : AllByRecursion (IsWaitPlace a.link.given a.held bytes frames) places
