use Rattle.std.proofs.Common.{refl}
use Rattle.pg_call.proofs.StateLaws.{raw_rest}
use Rattle.pg_call.proofs.waiting.Waiting.of_raw.Goals as goal

pub returns : goal.returns
returns c =
    let r = raw_rest c.args.request.now c.requires in
    rw (c.raw_heading.ensures, c.kind-kind.ensures, c.first.ensures, r.0, r.1) refl
