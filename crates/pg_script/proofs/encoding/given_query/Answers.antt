use Rattle.std.proofs.Common.{List, ℕ, ap, ◌∙◌}
use Rattle.pg_request.specs.Asked.{sent_as, kept_query}
use Rattle.pg_script.proofs.GivenLaws.{given_is}
use Rattle.pg_script.proofs.encoding.given_query.Goals as goal

pub returns-in-Ok : goal.returns-in-Ok
returns-in-Ok c =
    let a = c.in_ok-arguments.arguments in
    let query = c.in-Ok.ensures.query ∙ ap (λ (s : List ℕ). kept_query s (sent_as a)) c.as_str.ensures in
    rw c.persistent.ensures (given_is c.args.is_kept c.args.sql c.args.given.items a c.in-Ok.query c.in_ok-arguments.ensures.ok c.in-Ok.ensures.values query)
