use Rattle.pg_migrate.proofs.CrcLaws.{by_table}
use Rattle.pg_migrate.proofs.checksum.behind_byte.Goals as goal

pub returns : goal.returns
returns c = rw c.from.ensures (by_table c.args.register c.args.byte c.ranges.byte.fits)
