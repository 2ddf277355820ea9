use Rattle.std.proofs.Common.{◌≡◌, ◌++◌, take, flat_map}
use Rattle.pg_wire.specs.Frontend.{setting}
use Rattle.pg_wire.proofs.message.startup.append_settings.Given as goal

abbrev pub invariant-loop-pair : goal.invariant-loop-pair
invariant-loop-pair l = l.out ≡ l.initial.out ++ flat_map setting (take l.pair-index l.params)
