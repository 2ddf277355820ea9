use Rattle.std.proofs.Common.{rules, refl, [], ◌∷◌}
use Rattle.pg_startup.specs.Exchange.{SaslResponse}
use Rattle.pg_startup.proofs.ReplyLaws.{one_proof}
use Rattle.pg_startup.proofs.client.Client.prove_to.Goals as goal

pub returns-clause-ok : goal.returns-clause-ok
returns-clause-ok c = (
  SaslResponse c.in_ok-answer.answer.client_final ∷ [],
  (c.in_ok-answer.answer, search rules, refl, refl),
  one_proof (SaslResponse c.in_ok-answer.answer.client_final) c.encode_sasl_response.new.out (search rules),
)
