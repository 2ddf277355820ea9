use Rattle.std.proofs.Common.{◌≡◌, ◌++◌, drop, map}
use Rattle.std.specs.List.{AllByRecursion}
use Rattle.pg_wire.specs.declared.error.Error.{Error}
use Rattle.pg_wire.specs.Frontend.{CopyData, HasFrontendFrame}
use Rattle.pg_call.specs.Requests.{RefusesPieces, spelled}
use Rattle.pg_call.proofs.writing.encode_pieces.Given as goal

abbrev pub invariant-loop-piece : goal.invariant-loop-piece
invariant-loop-piece l = record {
  out : l.out ++ spelled (map CopyData (drop l.piece-index l.pieces)) ≡ l.initial.out ++ spelled (map CopyData l.pieces);
  said : AllByRecursion HasFrontendFrame (map CopyData (drop l.piece-index l.pieces)) → AllByRecursion HasFrontendFrame (map CopyData l.pieces);
  refused : (e : Error) → RefusesPieces (drop l.piece-index l.pieces) e → RefusesPieces l.pieces e;
}
