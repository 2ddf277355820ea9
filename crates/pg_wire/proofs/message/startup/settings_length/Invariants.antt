use Rattle.std.proofs.Common.{◌≡◌, ◌-◌, ◌^◌, take, length, min, flat_map}
use Rattle.pg_wire.specs.Frontend.{setting}
use Rattle.pg_wire.proofs.message.startup.settings_length.Given as goal

abbrev pub invariant-loop-pair : goal.invariant-loop-pair
invariant-loop-pair l = l.length ≡ min (length (flat_map setting (take l.pair-index l.params))) (2 ^ 64 - 1)
