use Rattle.std.proofs.lemmas.Result.{err_from_is_err_and}
use Rattle.std.proofs.lemmas.List.Elements.{All-from_recursion}
use Rattle.pg_wire.proofs.Each.{each_next}
use Rattle.pg_wire.specs.Frontend.{IsSetting}
use Rattle.pg_wire.proofs.message.startup.check_settings.Goals as goal

pub returns-in_err-check_setting-clause-nul : goal.returns-in_err-check_setting-clause-nul
returns-in_err-check_setting-clause-nul c =
    let p = err_from_is_err_and c.from_residual.result c.from_residual.ensures.1 in
    let refused = c.in_err-check_setting.ensures.nul in
    rw (p.1, p.2) (λ all. refused.0 (rw c.pair-item.is (All-from_recursion IsSetting c.args.params.now all c.loop-pair.pair-index _ c.loop-pair-test.true)), refused.1)

pub loop-pair-preserved : goal.loop-pair-preserved
loop-pair-preserved c = each_next IsSetting c.args.params.now c.loop-pair.pair-index c.loop-pair.invariant c.pair-item.result c.pair-item.is c.in_ok-check_setting.ensures.ok
