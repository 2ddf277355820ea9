use Rattle.pg_values.proofs.array.VecDecode.decode.Goals as goal

pub returns-in-Binary-clause-value : goal.returns-in-Binary-clause-value
returns-in-Binary-clause-value g c = rw (c.in-Binary.is, c.in-Some.is) c.read_binary.ensures.value

pub returns-in-Binary-clause-cause : goal.returns-in-Binary-clause-cause
returns-in-Binary-clause-cause g c = rw (c.in-Binary.is, c.in-Some.is) c.read_binary.ensures.cause

pub returns-in-Text-clause-value : goal.returns-in-Text-clause-value
returns-in-Text-clause-value g c = rw (c.in-Text.is, c.in-Some.is) c.read_text.ensures.value

pub returns-in-Text-clause-cause : goal.returns-in-Text-clause-cause
returns-in-Text-clause-cause g c = rw (c.in-Text.is, c.in-Some.is) c.read_text.ensures.cause
