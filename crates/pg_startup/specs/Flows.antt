-- What lies between two states of a stream, over any number of polls.
use Rattle.std.specs.Prelude.{◌≡◌, ℕ, List}
use Rattle.pg_wire.specs.Frame.{Frame}
use Rattle.pg_stream.specs.Links.{NoneFalls}
use Rattle.pg_stream.specs.Streams.{StreamSeen, Sends, Takes}

-- these bytes were queued and these frames taken
pub record Flows (a b : StreamSeen) (queued : List ℕ) (frames : List Frame) : Type 0 where
  pub counts : NoneFalls a.link b.link
  pub secured : b.link.secured ≡ a.link.secured
  pub sent : Sends a b queued
  pub read : Takes a b frames
