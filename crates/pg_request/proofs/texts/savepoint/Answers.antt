use Rattle.std.proofs.Common.{codes, decimal, append_assoc, subst, sym}
use Rattle.pg_wire.specs.Bytes.{HasNoNul}
use Rattle.pg_request.proofs.TextLaws.{savepoint_said}
use Rattle.pg_request.proofs.texts.savepoint.Goals as goal

pub returns-clause-text : goal.returns-clause-text
returns-clause-text c = rw (c.push_str-3.ensures.bytes, c.push_str-2.ensures.bytes, c.push_str.ensures.bytes, c.new-text.ensures, c.format.ensures.text) (append_assoc c.args.command.now (codes "_sqlx_savepoint_") (decimal c.args.number))

pub returns-clause-said : goal.returns-clause-said
returns-clause-said c = subst HasNoNul (sym (returns-clause-text c)) (savepoint_said c.args.command.now c.args.number c.requires.text c.ranges.number.fits)
