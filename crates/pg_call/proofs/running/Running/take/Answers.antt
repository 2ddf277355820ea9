use Rattle.pg_call.proofs.running.Running.take.Goals as goal

pub returns-in-Some-clause-ok : goal.returns-in-Some-clause-ok
returns-in-Some-clause-ok c = rw (c.plain.ensures, c.if-tag-ne90.false) c.in-Some.ensures.ends.0

pub returns-in-Some-clause-stays : goal.returns-in-Some-clause-stays
returns-in-Some-clause-stays c = rw c.plain.ensures c.in-Some.ensures.ends.1
