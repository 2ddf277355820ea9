use Rattle.pg_values.proofs.value.texts.BlobDecode.decode.Goals as goal

pub returns-in-Text-clause-cause : goal.returns-in-Text-clause-cause
returns-in-Text-clause-cause c = rw (c.in-Text.is, c.in-Some.is) c.hex_text.ensures.cause
