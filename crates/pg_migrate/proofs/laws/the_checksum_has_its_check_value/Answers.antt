use Rattle.std.proofs.Common.{refl}
use Rattle.pg_migrate.specs.Crc32.{times_x, behind_byte, crc32}
use Rattle.pg_migrate.proofs.laws.the_checksum_has_its_check_value.Goals as goal

pub returns-clause-checksum : goal.returns-clause-checksum
unfolding crc32 behind_byte times_x
returns-clause-checksum c = refl

pub returns-clause-lock : goal.returns-clause-lock
unfolding crc32 behind_byte times_x
returns-clause-lock c = refl
