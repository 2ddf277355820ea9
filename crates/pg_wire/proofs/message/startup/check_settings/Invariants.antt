use Rattle.std.proofs.Common.{take}
use Rattle.std.specs.List.{AllByRecursion}
use Rattle.pg_wire.specs.Frontend.{IsSetting}
use Rattle.pg_wire.proofs.message.startup.check_settings.Given as goal

abbrev pub invariant-loop-pair : goal.invariant-loop-pair
invariant-loop-pair l = AllByRecursion IsSetting (take l.pair-index l.params)
