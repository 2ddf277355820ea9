use Rattle.std.proofs.Common.{rules, arith, ◌≤◌, ◌∙◌, append-nil}
use Rattle.pg_stream.specs.Links.{GrewBy}
use Rattle.pg_stream.specs.Received.{bytes_in}
use Rattle.pg_stream.proofs.StreamLemmas.{reads_moved, reads_waited, reads_ended, reads_failed}
use Rattle.pg_stream.proofs.stream.PgStream.read_once.Goals as goal

pub returns-in-Moved-clause-ok : goal.returns-in-Moved-clause-ok
returns-in-Moved-clause-ok g c =
    let grew : GrewBy 1 c.self.inside.moves c.saturating_add-self-inside.result = search rules in
    let some = rw (← c.self.view_is) at c.requires.left in
    let sent = rw (← c.self.view_is) at c.requires.sent in
    let read = rw c.in-Moved.is at c.in_ok-answer.ensures.ok in
    rw (← c.self.view_is, read.bytes) (reads_moved _ _ read.into _ _ _ sent read.reads read.asked read.room some grew)

pub returns-in-NotYet-clause-ok : goal.returns-in-NotYet-clause-ok
returns-in-NotYet-clause-ok g c =
    let grew : GrewBy 1 c.self.inside.waits c.saturating_add-self-inside-in-NotYet.result = search rules in
    let some = rw (← c.self.view_is) at c.requires.left in
    let sent = rw (← c.self.view_is) at c.requires.sent in
    let read = rw c.in-NotYet.is at c.in_ok-answer.ensures.ok in
    let same = read.bytes ∙ append-nil (bytes_in c.self.inside.held) in
    rw (← c.self.view_is, same) (reads_waited _ _ read.into _ _ sent read.reads read.asked read.room some grew)

pub returns-in-End-clause-ok : goal.returns-in-End-clause-ok
returns-in-End-clause-ok g c =
    let some = rw (← c.self.view_is) at c.requires.left in
    let sent = rw (← c.self.view_is) at c.requires.sent in
    let read = rw c.in-End.is at c.in_ok-answer.ensures.ok in
    let same = read.bytes ∙ append-nil (bytes_in c.self.inside.held) in
    rw (← c.self.view_is, same) (reads_ended _ _ read.into _ sent read.reads read.asked read.room some)

pub returns-in-Failed-clause-ok : goal.returns-in-Failed-clause-ok
returns-in-Failed-clause-ok g c =
    let some = rw (← c.self.view_is) at c.requires.left in
    let sent = rw (← c.self.view_is) at c.requires.sent in
    let read = rw c.in-Failed.is at c.in_ok-answer.ensures.ok in
    let same = read.bytes ∙ append-nil (bytes_in c.self.inside.held) in
    rw (← c.self.view_is, same) (reads_failed _ _ read.into _ sent read.reads read.asked read.room some)
