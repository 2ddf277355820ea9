use Rattle.pg_migrate.proofs.QuoteLaws.{read_back}
use Rattle.pg_migrate.proofs.laws.a_quoted_text_is_read_back.Goals as goal

pub returns : goal.returns
returns c = read_back
