use Rattle.std.proofs.Common.{ap, inr, refl, sym, ◌∙◌}
use Rattle.std.specs.Result.{result_ok}
use Rattle.pg_options.proofs.NumberLaws.{parse_reads}
use Rattle.pg_migrating.proofs.forcing.version_in.Goals as goal

pub returns-in-Ok-parse-clause-ok : goal.returns-in-Ok-parse-clause-ok
returns-in-Ok-parse-clause-ok c =
    let read = sym (parse_reads 32 c.as_str.result.now c.parse.result c.parse.ensures.value.0) ∙ ap result_ok c.in-Ok-parse.is in
    (c.in-Ok.word, c.in-Ok.ensures.ok, rw c.as_str.ensures at read)

pub returns-clause-err : goal.returns-clause-err
returns-clause-err c =
    let read = sym (parse_reads 32 c.as_str.result.now c.parse.result c.parse.ensures.value.0) ∙ ap result_ok c.in-Err-parse.is in
    inr (inr (c.in-Ok.word, c.in-Ok.ensures.ok, rw c.as_str.ensures at read, refl))
