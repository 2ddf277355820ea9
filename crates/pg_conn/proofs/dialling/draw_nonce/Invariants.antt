use Rattle.std.proofs.Common.{◌≡◌, take}
use Rattle.pg_conn.specs.Dials.{Draws}
use Rattle.pg_conn.proofs.dialling.draw_nonce.Given as goal

abbrev pub invariant-loop-word : goal.invariant-loop-word
invariant-loop-word g l = Draws g.D.Dial.draws l.initial.dial (take l.word-index l.word-items) l.dial × ((g.D.Dial.seen l.dial).links ≡ (g.D.Dial.seen l.initial.dial).links) × ((g.D.Dial.seen l.dial).faults ≡ (g.D.Dial.seen l.initial.dial).faults)
