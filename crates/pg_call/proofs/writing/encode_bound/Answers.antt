use Rattle.std.proofs.Common.{[]}
use Rattle.pg_wire.specs.Frontend.{frontend_frame, Bind, Execute, ClosePortal, Sync}
use Rattle.pg_call.specs.Requests.{name_of}
use Rattle.pg_call.proofs.WritingLaws.{four_frames}
use Rattle.pg_call.proofs.writing.encode_bound.Goals as goal

pub returns-clause-ok : goal.returns-clause-ok
returns-clause-ok c =
    let bound = c.args.bound.now in
    let binds = c.in_ok-encode_bind.ensures.values bound.arguments.values c.count.ensures c.encoded.ensures in
    four_frames c.encode_sync.result (frontend_frame (Bind (name_of bound.statement) bound.arguments.values)) (frontend_frame (Execute [] 0)) (frontend_frame (ClosePortal [])) (frontend_frame Sync) _ _ _ _ _ binds c.in_ok-encode_execute.ensures.ok c.in_ok-encode_close_portal.ensures.ok c.encode_sync.ensures.ok
