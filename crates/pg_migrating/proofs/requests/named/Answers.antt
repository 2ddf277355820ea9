use Rattle.std.proofs.Common.{◌∙◌}
use Rattle.pg_migrating.specs.Texts.{text_of}
use Rattle.pg_migrating.proofs.BoundLaws.{asks_text}
use Rattle.pg_migrating.proofs.requests.named.Goals as goal

pub returns-in-Ok : goal.returns-in-Ok
returns-in-Ok c bounds h = asks_text c.args.how (text_of c.args.wording c.args.name.now) c.as_str.result.now bounds c.prepared.result (c.as_str.ensures.value ∙ c.in-Ok.ensures) (c.prepared.ensures bounds h)
