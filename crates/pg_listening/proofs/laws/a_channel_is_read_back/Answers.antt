use Rattle.std.proofs.Common.{refl}
use Rattle.pg_migrate.specs.Quoting.{quoted}
use Rattle.pg_migrate.proofs.QuoteLaws.{read_back}
use Rattle.pg_listening.specs.Channels.{channel_name}
use Rattle.pg_listening.proofs.laws.a_channel_is_read_back.Goals as goal

pub returns-clause-listen : goal.returns-clause-listen
returns-clause-listen c = λ channel rest h. (quoted 34 (channel_name channel), refl, read_back 34 (channel_name channel) rest h)

pub returns-clause-unlisten : goal.returns-clause-unlisten
returns-clause-unlisten c = λ channel rest h. (quoted 34 (channel_name channel), refl, read_back 34 (channel_name channel) rest h)
