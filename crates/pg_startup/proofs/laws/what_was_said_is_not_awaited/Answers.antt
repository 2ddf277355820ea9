use Rattle.pg_startup.proofs.LawfulLaws.{lawful_wait}
use Rattle.pg_startup.proofs.laws.what_was_said_is_not_awaited.Goals as goal

pub returns : goal.returns
returns c = lawful_wait
