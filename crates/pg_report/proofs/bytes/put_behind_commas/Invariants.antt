use Rattle.std.proofs.Common.{◌≡◌, ◌++◌, take, string_bytes, flat_map}
use Rattle.pg_report.specs.Bytes.{behind_comma}
use Rattle.pg_report.proofs.bytes.put_behind_commas.Given as goal

abbrev pub invariant-loop-oid : goal.invariant-loop-oid
invariant-loop-oid l = string_bytes l.out ≡ string_bytes l.initial.out ++ flat_map behind_comma (take l.oid-index l.oids)
