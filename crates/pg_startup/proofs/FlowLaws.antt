-- What lies between two states of a stream, poll after poll.
use Rattle.std.proofs.Common.{◌≡◌, ℕ, List, [], ◌++◌, sym, ap, ◌∙◌, arith}
use Rattle.std.proofs.lemmas.List.{append-nil}
use Rattle.pg_wire.specs.Frame.{Frame}
use Rattle.pg_stream.specs.Links.{LinkSeen}
use Rattle.pg_stream.specs.Streams.{StreamSeen, Moves}
use Rattle.pg_stream.proofs.Known.{Appends-refl, NoneFalls-refl, NoneFalls-then}
use Rattle.pg_stream.proofs.StreamLemmas.{Sends-then, Takes-then}
use Rattle.pg_startup.specs.Flows.{Flows}

pub Flows-then : (a b c : StreamSeen) (s t : List ℕ) (x y : List Frame) → Flows a b s x → Flows b c t y → Flows a c (s ++ t) (x ++ y)
Flows-then a b c s t x y f g = record {
  counts = NoneFalls-then a.link b.link c.link f.counts g.counts;
  secured = g.secured ∙ f.secured;
  sent = Sends-then a b c s t f.sent g.sent;
  read = Takes-then a b c x y f.read g.read;
}

-- the allowance of a poll, and the numbers of a call, are no matter
pub flows_begun : (a b : StreamSeen) (left : ℕ) (q : List ℕ) (fs : List Frame) → Moves (record a { left = left }) b q fs → Flows a b q fs
flows_begun a b left q fs m = record { counts = m.counts; secured = m.secured; sent = m.sent; read = m.read }

pub Flows-none : (a b : StreamSeen) → b.link ≡ a.link → b.unsent ≡ a.unsent → b.held ≡ a.held → b.taken ≡ a.taken → Flows a b [] []
Flows-none a b l u h t = record {
  counts = rw l (NoneFalls-refl a.link);
  secured = ap (λ (x : LinkSeen). x.secured) l;
  sent = ([], rw l (Appends-refl a.link.taken), append-nil a.unsent ∙ sym u);
  read = ([], rw l (Appends-refl a.link.given), append-nil a.held ∙ sym h, tt, rw t (omega arith, omega arith, omega arith));
}

-- more is queued, and nothing else changes
pub flows_queued : (a b : StreamSeen) (text : List ℕ) → b.link ≡ a.link → b.unsent ≡ a.unsent ++ text → b.held ≡ a.held → b.taken ≡ a.taken → Flows a b text []
flows_queued a b text l u h t = record {
  counts = rw l (NoneFalls-refl a.link);
  secured = ap (λ (x : LinkSeen). x.secured) l;
  sent = ([], rw l (Appends-refl a.link.taken), sym u);
  read = ([], rw l (Appends-refl a.link.given), append-nil a.held ∙ sym h, tt, rw t (omega arith, omega arith, omega arith));
}
