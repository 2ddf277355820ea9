use Rattle.pg_startup.proofs.WitnessLaws.{some_lawful}
use Rattle.pg_startup.proofs.laws.there_are_lawful_exchanges.Goals as goal

pub returns : goal.returns
returns c = some_lawful
