use Rattle.pg_conn.proofs.FrontLaws.{takes_row}
use Rattle.pg_conn.proofs.connection.PgConnection.learn.Goals as goal

pub returns-clause-takes : goal.returns-clause-takes
returns-clause-takes g c =
    let f = c.body.ensures in
    let says = c.in-Ok.ensures in
    rw (← c.self.view_is) (λ body rest of. takes_row c.self.inside.stream.held c.args.front 68 c.body.result.now f.0 c.in-Ok.values c.self.inside.learnt c.take.new.self c.take.result c.requires.tag f.1 says says.0 c.take.ensures body rest of)
