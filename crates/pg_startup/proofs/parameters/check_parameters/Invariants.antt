use Rattle.std.proofs.Common.{◌≡◌, take, flat_map, None}
use Rattle.std.specs.List.{AllByRecursion}
use Rattle.pg_wire.specs.Frontend.{IsSetting}
use Rattle.pg_startup.specs.Nuls.{first_nul_in}
use Rattle.pg_startup.specs.Startups.{parameter_texts}
use Rattle.pg_startup.proofs.parameters.check_parameters.Given as goal

abbrev pub invariant-loop-parameter : goal.invariant-loop-parameter
invariant-loop-parameter l = AllByRecursion IsSetting (take l.parameter-index l.parameters) × (first_nul_in (flat_map parameter_texts (take l.parameter-index l.parameters)) ≡ None)
