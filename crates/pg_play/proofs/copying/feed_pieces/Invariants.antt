use Rattle.std.proofs.Common.{drop, flat_map}
use Rattle.std.specs.Prelude.{Result}
use Rattle.pg_wire.specs.declared.error.Error.{Error}
use Rattle.pg_conn.specs.Connections.{ConnOf}
use Rattle.pg_play.specs.Feeding.{Feeds, cut}
use Rattle.pg_play.proofs.copying.feed_pieces.Given as goal

abbrev pub invariant-loop-piece : goal.invariant-loop-piece
invariant-loop-piece g l = (c : ConnOf g.row.L.Denot) (result : Result (Unit {0}) Error) → Feeds l.conn c (flat_map cut (drop l.piece-index l.pieces)) result → Feeds l.initial.conn c (flat_map cut l.pieces) result
