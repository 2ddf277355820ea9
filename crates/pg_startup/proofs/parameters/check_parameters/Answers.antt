use Rattle.std.proofs.lemmas.Result.{err_from_is_err_and}
use Rattle.pg_wire.specs.Frontend.{IsSetting}
use Rattle.pg_wire.proofs.Each.{each_next}
use Rattle.pg_startup.proofs.NulLaws.{nul_at, nul_next}
use Rattle.pg_startup.proofs.parameters.check_parameters.Goals as goal

pub returns-in_err-check_parameter-clause-err : goal.returns-in_err-check_parameter-clause-err
returns-in_err-check_parameter-clause-err c =
    let p = err_from_is_err_and c.from_residual.result c.from_residual.ensures.1 in
    let refused = c.in_err-check_parameter.ensures.err in
    rw (p.1, p.2) (refused.0, nul_at c.args.parameters.now c.loop-parameter.parameter-index refused.0 c.loop-parameter.invariant.1 c.loop-parameter-test.true c.parameter-item.result c.parameter-item.is refused.1, refused.2)

pub loop-parameter-preserved : goal.loop-parameter-preserved
loop-parameter-preserved c = (
  each_next IsSetting c.args.parameters.now c.loop-parameter.parameter-index c.loop-parameter.invariant.0 c.parameter-item.result c.parameter-item.is c.in_ok-check_parameter.ensures.ok.0,
  nul_next c.args.parameters.now c.loop-parameter.parameter-index c.loop-parameter.invariant.1 c.parameter-item.result c.parameter-item.is c.in_ok-check_parameter.ensures.ok.1,
)
