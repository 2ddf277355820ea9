use Rattle.pg_exchanges.proofs.KeptLaws.{described_is_kept}
use Rattle.pg_exchanges.proofs.laws.what_was_described_is_kept.Goals as goal

pub returns : goal.returns
returns c = described_is_kept
