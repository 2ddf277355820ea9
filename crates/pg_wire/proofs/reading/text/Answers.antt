use Rattle.std.proofs.Common.{sym}
use Rattle.pg_wire.proofs.EndedLaws.{text_found, text_refused}
use Rattle.pg_wire.proofs.reading.text.Goals as goal

pub returns-in-Ok : goal.returns-in-Ok
returns-in-Ok c = let valid = c.in-Ok.ensures.cases in rw valid.0 (sym (text_found c.args.bytes.now c.in_ok-text.text.now c.in_ok-text.rest.now (sym c.in_ok-text.ensures) valid.1))

pub returns-in-Err : goal.returns-in-Err
returns-in-Err c = sym (text_refused c.args.bytes.now c.in_ok-text.text.now c.in_ok-text.rest.now (sym c.in_ok-text.ensures) c.in-Err.ensures.cases.0)
