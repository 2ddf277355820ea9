use Rattle.pg_play.proofs.StartLaws.{starts_on}
use Rattle.pg_play.proofs.starting.poll_once.Goals as goal

pub returns-clause-starts : goal.returns-clause-starts
returns-clause-starts g c = starts_on g.L.Link.seen c.args.establish.now c.poll.new.self c.poll.result c.poll.ensures.polls
