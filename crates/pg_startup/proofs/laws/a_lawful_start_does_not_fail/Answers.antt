use Rattle.pg_startup.proofs.LawfulLaws.{lawful_start}
use Rattle.pg_startup.proofs.laws.a_lawful_start_does_not_fail.Goals as goal

pub returns : goal.returns
returns c = lawful_start
