use Rattle.pg_script.proofs.LiveLaws.{live_read}
use Rattle.pg_script.proofs.reader.read_steps.Goals as goal

pub returns-in-Ok : goal.returns-in-Ok
returns-in-Ok c = rw c.of.ensures (live_read c.in-Ok.script c.args.text.now c.in-Ok.ensures)
