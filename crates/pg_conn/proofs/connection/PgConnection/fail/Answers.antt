use Rattle.std.proofs.Common.{ap, ◌∙◌, Bool, Err, Option}
use Rattle.pg_wire.specs.declared.error.ServerFault.{ServerFault}
use Rattle.pg_call.specs.declared.calling.Beat.TheVariants as beats
use Rattle.pg_conn.specs.Connections.{ConnOf, cleaned, unfed}
use Rattle.pg_conn.specs.Turns.{broken_by}
use Rattle.pg_conn.proofs.connection.PgConnection.fail.Goals as goal

pub returns : goal.returns
returns g c =
    let over = c.ends_copy.result in
    let unfeeds = ap (λ (x : ConnOf _). cleaned x) c.unfeed.ensures in
    let seen_as = ap (λ (x : ConnOf _). cleaned (unfed over (record x { broken = c.fault_in-self-inside.result }))) c.self.view_is in
    let by_fault = ap (λ (o : Option ServerFault). cleaned (unfed over (record c.args.self.now { broken = o }))) c.fault_in-self-inside.ensures in
    let is_over = ap (λ (b : Bool). cleaned (unfed b (record c.args.self.now { broken = broken_by (beats.Ends (Err c.args.error.now)) }))) c.ends_copy.ensures in
    c.clean.ensures ∙ unfeeds ∙ seen_as ∙ by_fault ∙ is_over
