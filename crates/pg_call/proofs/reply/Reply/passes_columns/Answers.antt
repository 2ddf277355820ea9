use Rattle.pg_call.proofs.RowLaws.{passes_columns}
use Rattle.pg_call.proofs.reply.Reply.passes_columns.Goals as goal

pub returns-clause-yes : goal.returns-clause-yes
returns-clause-yes c e =
    let p = c.in-Ok.ensures in
    passes_columns c.args.self.now c.args.body.now p.0 c.in-Ok.part p.1 p.2 c.requires
