use Rattle.pg_call.proofs.PlaceLaws.{strays_at}
use Rattle.pg_call.proofs.judging.stray.Goals as goal

pub returns : goal.returns
returns c =
    let read = c.in_ok-check_message.ensures in
    (read.0, read.1, strays_at c.args.part c.args.tag c.args.body.now read.0 read.1 c.requires)
