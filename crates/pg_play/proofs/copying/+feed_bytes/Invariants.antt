use Rattle.std.proofs.Common.{length}
use Rattle.pg_play.proofs.copying.+feed_bytes.Given as goal

abbrev pub decreases-feed_bytes : goal.decreases-feed_bytes
decreases-feed_bytes g l = length l.bytes.now
