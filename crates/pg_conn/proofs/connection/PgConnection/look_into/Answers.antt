use Rattle.std.proofs.Common.{ℕ, List, Some, false, rules, tests}
use Rattle.pg_call.specs.Requests.{filled_for}
use Rattle.pg_call.specs.declared.request.Request.TheVariants as requests
use Rattle.pg_conn.specs.Looking.{holes_for}
use Rattle.pg_conn.proofs.FirstLaws.{any_some}
use Rattle.pg_conn.proofs.connection.PgConnection.look_into.Goals as goal

pub returns-clause-ok : goal.returns-clause-ok
returns-clause-ok g c =
    let ok = c.in_ok-next.ensures.ok in
    let x = c.args.extended in (
      ok.0,
      any_some false (holes_for x.goal x.arguments) (requests.Describe x) (λ (text : List ℕ). requests.Describe (record x { filling = Some text })) (λ (oids : List ℕ). requests.Describe (filled_for oids x)) c.args.self.now.learnt c.look_for_holes.new.self.learnt c.in_ok-next.next (search (rules, tests)) ok.1,
    )
