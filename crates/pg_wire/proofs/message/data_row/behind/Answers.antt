use Rattle.std.proofs.Common.{arith}
use Rattle.std.proofs.lemmas.List.{take_rest}
use Rattle.pg_wire.proofs.PlaceLaws.{number_room, behind_bytes, behind_null, behind_none, behind_short}
use Rattle.pg_wire.proofs.message.data_row.behind.Goals as goal

pub returns-in_default-clause-rest : goal.returns-in_default-clause-rest
returns-in_default-clause-rest c = behind_short c.args.body.now c.args.place (rw take_rest at c.in_default.ensures)

pub returns-then-length-rest-clause-rest : goal.returns-then-length-rest-clause-rest
returns-then-length-rest-clause-rest c = behind_bytes c.args.body.now c.args.place c.in-Some.length c.in-Some.rest.now c.requires.told (rw take_rest at c.in-Some.ensures) c.if-length-rest.true

pub returns-then-length-rest-clause-within : goal.returns-then-length-rest-clause-within
returns-then-length-rest-clause-within c = omega (arith, number_room c.args.body.now c.args.place c.in-Some.length c.in-Some.rest.now c.requires.within (rw take_rest at c.in-Some.ensures), c.if-length-rest.true)

pub returns-then-length-clause-rest : goal.returns-then-length-clause-rest
returns-then-length-clause-rest c = behind_null c.args.body.now c.args.place c.in-Some.length c.in-Some.rest.now (rw take_rest at c.in-Some.ensures) c.if-length.true

pub returns-then-length-clause-within : goal.returns-then-length-clause-within
returns-then-length-clause-within c = omega (arith, number_room c.args.body.now c.args.place c.in-Some.length c.in-Some.rest.now c.requires.within (rw take_rest at c.in-Some.ensures))

pub returns-clause-rest : goal.returns-clause-rest
returns-clause-rest c = behind_none c.args.body.now c.args.place c.in-Some.length c.in-Some.rest.now (rw take_rest at c.in-Some.ensures) (omega (arith, c.if-length-rest.false)) c.if-length.false
