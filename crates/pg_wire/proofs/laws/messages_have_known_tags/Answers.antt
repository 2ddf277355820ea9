use Rattle.pg_wire.proofs.TagLaws.{frontend_tag, backend_tag}
use Rattle.pg_wire.proofs.laws.messages_have_known_tags.Goals as goal

pub returns-clause-frontend : goal.returns-clause-frontend
returns-clause-frontend c = frontend_tag

pub returns-clause-backend : goal.returns-clause-backend
returns-clause-backend c = backend_tag
