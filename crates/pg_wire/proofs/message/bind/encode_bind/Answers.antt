use Rattle.std.proofs.Common.{arith, subst}
use Rattle.pg_wire.specs.Bytes.{HasNoNul}
use Rattle.pg_wire.specs.Frontend.{name_under, statement_name}
use Rattle.pg_wire.proofs.BoundLaws.{bound_fits}
use Rattle.pg_wire.proofs.message.bind.encode_bind.Goals as goal

-- src/message/bind.rt:42:1
pub returns-clause-fits : goal.returns-clause-fits
returns-clause-fits c = λ values is_count is_params. bound_fits (name_under statement_name c.args.statement) c.args.params.now c.args.count values (subst HasNoNul c.name-name.ensures.name c.name-name.ensures.text) c.in_ok-count.ensures.fits (omega (arith, c.in_ok-size.ensures.fits)) is_count is_params
