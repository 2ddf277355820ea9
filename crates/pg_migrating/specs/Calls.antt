-- A call of a connection from its request to its answer, over all of its polls.
use Rattle.std.specs.Prelude.{◌≡◌, ℕ, ◌≤◌, List, [], ◌∷◌}
use Rattle.futures.specs.declared.task.Poll.{Poll}
use Rattle.futures.specs.declared.task.Poll.TheVariants.{Ready, Pending}
use Rattle.pg_stream.specs.Links.{LinkSeen}
use Rattle.pg_call.specs.declared.request.Request.{Request}
use Rattle.pg_call.specs.declared.answer.Turn.{Turn}
use Rattle.pg_conn.specs.Connections.{ConnOf, seen_by, started_call}
use Rattle.pg_conn.specs.Turns.{PollsWithin}

-- a poll within the calls of the link that are left, of the 256 that one poll of a caller may make
pub record Polls {A : Type 0} (seen : A → LinkSeen) (a b : ConnOf A) (answer : Poll Turn) : Type 0 where
  pub left : ℕ
  pub few : left ≤ 256
  pub polls : PollsWithin left (seen_by seen a) (seen_by seen b) answer

-- polls that waited, of which the last began in the first of these, took the connection from a to b
abbrev pub Waited : {A : Type 0} → (A → LinkSeen) → ConnOf A → List (ConnOf A) → ConnOf A → Type 0
Waited seen a [] b = b ≡ a
Waited seen a (last ∷ earlier) b = Polls seen last b Pending × Waited seen a earlier last

-- the call of this request, which was begun on a, still waits on b
pub record Waits {A : Type 0} (seen : A → LinkSeen) (r : Request) (a b : ConnOf A) : Type 0 where
  pub earlier : List (ConnOf A)
  pub waited : Waited seen (started_call r a) earlier b

-- it has come to this on b
pub record Called {A : Type 0} (seen : A → LinkSeen) (r : Request) (a b : ConnOf A) (turn : Turn) : Type 0 where
  pub last : ConnOf A
  pub waits : Waits seen r a last
  pub ends : Polls seen last b (Ready turn)
