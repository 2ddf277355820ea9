use Rattle.pg_migrating.proofs.BoundLaws.{adds, refuses_added, refuses_more}
use Rattle.pg_migrating.proofs.binding.bind.Goals as goal

pub returns-in-Ok-add_image : goal.returns-in-Ok-add_image
returns-in-Ok-add_image c before b oid image h = adds before b c.args.oid c.args.image.now c.in-Ok-under_oid.of c.in-Ok.arguments c.add_image.new.self oid image c.in-Ok-under_oid.ensures (rw c.in-Ok.is at h) c.in-Ok-add_image.ensures.ok c.in-Ok-add_image.ensures.values

pub returns-in-Err-add_image : goal.returns-in-Err-add_image
returns-in-Err-add_image c before b oid image h = refuses_added before b c.args.image.now c.in-Ok.arguments c.in-Err-add_image.e image (rw c.in-Ok.is at h) c.in-Err-add_image.ensures.cause

pub returns-in-Err : goal.returns-in-Err
returns-in-Err c before b oid image h = refuses_more before b c.in-Err.e (rw c.in-Err.is at h)

pub returns-in-Err-under_oid : goal.returns-in-Err-under_oid
returns-in-Err-under_oid c before b oid image h = tt
