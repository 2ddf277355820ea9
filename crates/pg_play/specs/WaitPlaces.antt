-- The link's wait places, exchange by exchange.
use Rattle.std.specs.Prelude.{◌≡◌, ℕ, ◌+◌, List, ◌++◌, length, Some, IfSome, sum_by}
use Rattle.std.specs.Io.KnownBytes.{Appends}
use Rattle.std.specs.List.{AllByRecursion}
use Rattle.pg_wire.specs.Frame.{text_of}
use Rattle.pg_stream.specs.Links.{LinkSeen, GrewBy, Rose}
use Rattle.pg_report.specs.declared.outcome.Outcome.{Outcome}
use Rattle.pg_play.specs.Places.{Place}
use Rattle.pg_play.specs.Waits.{IsWaitPlace}

-- Where the reads of an exchange waited.
pub record WaitPlaces (at : Place) (out : Outcome) (next : Place) : Type 0 where
  -- the bytes that the link gave in the exchange, behind all that was read before
  pub bytes : List ℕ
  pub gave : Appends at.seen.link.given next.seen.link.given bytes
  pub read : text_of at.frames ++ at.seen.held ++ bytes ≡ text_of next.frames ++ next.seen.held
  -- the places that the link added, where it tells them and its bytes
  pub places : List ℕ
  pub told : IfSome at.seen.link.given (λ given. Appends at.seen.link.wait_places next.seen.link.wait_places places)
  -- each wait of the exchange has its place, but for those of writes
  pub write_waits : ℕ
  pub all : write_waits + length places ≡ out.waits
  pub writes : GrewBy write_waits at.seen.link.write_waits next.seen.link.write_waits
  -- the whole frames given before a wait are taken by the end of the exchange
  pub behind : AllByRecursion (IsWaitPlace at.seen.link.given (text_of at.frames ++ at.seen.held) bytes next.frames) places

-- Where the link tells its bytes and its wait places, the last of these are those of the steps, in order. Where no write waited, there are as
-- many as the steps waited in sum.
pub record LastPlaces (first last : LinkSeen) (outs : List Outcome) (places : List ℕ) : Type 0 where
  pub last_are : (given old new : List ℕ) → first.given ≡ Some given → first.wait_places ≡ Some old → last.wait_places ≡ Some new → (earlier : List ℕ) × (new ≡ earlier ++ places)
  pub many : (Rose first.write_waits last.write_waits → ⊥) → length places ≡ sum_by (λ out. out.waits) outs
