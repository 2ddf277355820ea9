-- What is to be sent, and the room that is kept for cleanup behind it.
use Rattle.std.specs.Prelude.{ℕ, List}

pub record OutgoingSeen : Type 0 where
  pub bytes : List ℕ
  -- how many bytes of cleanup can be queued without taking memory
  pub spare : ℕ
