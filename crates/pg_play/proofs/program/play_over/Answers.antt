use Rattle.pg_play.proofs.TopLaws.{is_play}
use Rattle.pg_play.proofs.program.play_over.Goals as goal

pub returns : goal.returns
returns c = is_play c.args.script c.play.result c.new-link.result c.args.options.now c.nonce_said-nonce.result.now c.unwrap_or-polls.result c.as_slice.result.now c.new-link.ensures.plan c.new-link.ensures.seen c.requires c.nonce_said-nonce.ensures.value c.unwrap_or-polls.ensures c.as_slice.ensures c.play.ensures.outcomes c.play.ensures.plays c.play.ensures.start
