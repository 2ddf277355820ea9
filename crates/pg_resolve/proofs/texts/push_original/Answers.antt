use Rattle.pg_resolve.proofs.TextLaws.{quoted_original}
use Rattle.pg_resolve.proofs.texts.push_original.Goals as goal

pub returns-in-Some : goal.returns-in-Some
returns-in-Some c = rw (c.in-Some.is, ← quoted_original c.in-Some.name, ← c.as_str.ensures) c.push_quoted.ensures
