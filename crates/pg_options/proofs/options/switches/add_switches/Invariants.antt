use Rattle.std.proofs.Common.{◌≡◌, take, fold}
use Rattle.pg_options.specs.Escaping.{with_switch}
use Rattle.pg_options.proofs.options.switches.add_switches.Given as goal

abbrev pub invariant-loop-name : goal.invariant-loop-name
invariant-loop-name l = l.text ≡ fold with_switch l.initial.text (take l.name-index l.pairs)
