use Rattle.std.proofs.Common.{arith}
use Rattle.pg_wire.proofs.ReaderLaws.{are_bytes}
use Rattle.pg_wire.proofs.PlaceLaws.{headed_length, row_found, row_left, row_unread}
use Rattle.pg_wire.proofs.message.data_row.find_many.Goals as goal

pub fill_many-requires-clause-headed : goal.fill_many-requires-clause-headed
fill_many-requires-clause-headed c = headed_length c.args.body.now c.args.count _ c.requires.headed

pub returns-in-Some-clause-yes : goal.returns-in-Some-clause-yes
returns-in-Some-clause-yes c = row_found c.args.body.now c.args.count c.fill_many.new.places.items c.in-Some.end (are_bytes c.args.body.now (λ i. omega (arith, c.type_inv.body i))) c.requires.headed (rw c.in-Some.is at c.in_ok-end.ensures.values)

pub returns-in-Some-clause-no : goal.returns-in-Some-clause-no
returns-in-Some-clause-no c = row_left c.args.body.now c.args.count c.fill_many.new.places.items c.in-Some.end (rw c.in-Some.is at c.in_ok-end.ensures.within) c.requires.headed (rw c.in-Some.is at c.in_ok-end.ensures.values)

pub returns-in-None-clause-no : goal.returns-in-None-clause-no
returns-in-None-clause-no c = λ _. row_unread c.args.body.now c.args.count c.requires.headed (rw c.in-None.is at c.in_ok-end.ensures.values)
