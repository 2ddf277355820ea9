use Rattle.pg_stream.proofs.EventLaws.{whole}
use Rattle.pg_stream.proofs.laws.memory_link_gives_its_pieces.Goals as goal

pub returns : goal.returns
returns c = λ m. whole m.reads
