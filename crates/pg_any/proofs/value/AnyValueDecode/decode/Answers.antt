use Rattle.std.proofs.Common.{sym, ◌∙◌}
use Rattle.pg_any.proofs.AnyLaws.{kind_refused}
use Rattle.pg_any.proofs.value.AnyValueDecode.decode.Goals as goal

pub returns-in-Some-clause-cause : goal.returns-in-Some-clause-cause
returns-in-Some-clause-cause c = kind_refused c.args.value.type_info.now c.in-Some.kind c.args.value.format _ c.decode_any.result (sym c.kind_of.ensures ∙ c.in-Some.is) c.decode_any.ensures.err
