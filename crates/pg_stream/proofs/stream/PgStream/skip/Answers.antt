use Rattle.std.proofs.Common.{rules}
use Rattle.pg_stream.specs.Links.{GrewBy}
use Rattle.pg_stream.proofs.StreamLemmas.{passes}
use Rattle.pg_stream.proofs.stream.PgStream.skip.Goals as goal

pub returns : goal.returns
returns g c =
    let grew : GrewBy c.args.front.total c.self.inside.taken c.saturating_add-self-inside.result = search rules in
    rw (← c.self.view_is, c.advance.ensures.bytes, c.advance.ensures.room) (passes _ c.args.front _ grew)
