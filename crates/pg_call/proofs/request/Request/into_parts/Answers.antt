use Rattle.pg_call.proofs.StateLaws.{rests_none}
use Rattle.pg_call.proofs.request.Request.into_parts.Goals as goal

pub returns-in_default : goal.returns-in_default
returns-in_default c = rw (c.raw_heading-in_default.ensures, c.requires) (rests_none c.args.self c.in_default.not-Describe c.in_default.not-Run c.in_default.not-Look c.in_default.not-Fill c.in_default.not-Evict c.in_default.not-Prepare)
