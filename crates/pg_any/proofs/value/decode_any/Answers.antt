use Rattle.pg_any.proofs.value.decode_any.Goals as goal

pub returns-in-Some-clause-err : goal.returns-in-Some-clause-err
returns-in-Some-clause-err c = rw c.in-Some.is (rw c.in-Some.is at c.decode_as.ensures.err)
