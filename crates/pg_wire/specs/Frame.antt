-- Frames: what every message looks like on the wire once start-up has begun (PostgreSQL manual, "Messaging Overview").
use Rattle.std.specs.Prelude.{ℕ, ◌+◌, ◌<◌, ◌^◌, Bool, List, ◌∷◌, ◌++◌, length, IsTrue, nat_eq, flat_map, codes}
use Rattle.std.specs.List.{list_any}
use Rattle.pg_wire.specs.Bytes.{number32}

-- the byte that tells the message's type, and what follows its length
pub record Frame : Type 0 where
  pub tag : ℕ
  pub body : List ℕ

-- on the wire: the tag, a length that counts itself and the body but not the tag, and the body
abbrev pub bytes_of : Frame → List ℕ
bytes_of frame = frame.tag ∷ number32 (length frame.body + 4) ++ frame.body

-- several frames, one directly behind the other
abbrev pub text_of : List Frame → List ℕ
text_of frames = flat_map bytes_of frames

-- the tags of the messages that a server sends, and of those that a client sends ("Message Formats")
abbrev pub backend_tags : List ℕ
backend_tags = codes "RKSZTtDCENAGHdI123nsc"

abbrev pub frontend_tags : List ℕ
frontend_tags = codes "QPDBECSXpdcf"

-- whether the tag is among these
abbrev pub is_known : List ℕ → ℕ → Bool
is_known tags tag = list_any (nat_eq tag) tags

-- a frame that can stand on the wire: its tag is one of these, and its length fits in four bytes
pub record IsWhole (tags : List ℕ) (frame : Frame) : Type 0 where
  pub known : IsTrue (is_known tags frame.tag)
  pub fits : length frame.body + 4 < 2 ^ 32
