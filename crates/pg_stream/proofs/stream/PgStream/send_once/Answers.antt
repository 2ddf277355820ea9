use Rattle.std.proofs.Common.{rules}
use Rattle.pg_stream.specs.Links.{GrewBy}
use Rattle.pg_stream.proofs.StreamLemmas.{sends_moved, sends_waited, sends_failed}
use Rattle.pg_stream.proofs.stream.PgStream.send_once.Goals as goal

pub returns-in-Moved : goal.returns-in-Moved
returns-in-Moved g c =
    let grew : GrewBy 1 c.self.inside.moves c.saturating_add-self-inside.result = search rules in
    let some = rw (← c.self.view_is) at c.requires.left in
    rw (← c.self.view_is, c.advance.ensures) (sends_moved _ _ _ _ (rw c.as_slice.ensures at c.in-Moved.ensures) some grew)

pub returns-in-NotYet : goal.returns-in-NotYet
returns-in-NotYet g c =
    let grew : GrewBy 1 c.self.inside.waits c.saturating_add-self-inside-in-NotYet.result = search rules in
    let some = rw (← c.self.view_is) at c.requires.left in
    rw (← c.self.view_is) (sends_waited _ _ _ (rw c.as_slice.ensures at c.in-NotYet.ensures) some grew)

pub returns-in-Failed : goal.returns-in-Failed
returns-in-Failed g c =
    let some = rw (← c.self.view_is) at c.requires.left in
    rw (← c.self.view_is) (sends_failed _ _ (rw c.as_slice.ensures at c.in-Failed.ensures) some)
