use Rattle.std.proofs.Common.{◌≡◌, drop}
use Rattle.pg_request.specs.Asked.{patched_all}
use Rattle.pg_request.proofs.arguments.patch_all.Given as goal

abbrev pub invariant-loop-oid : goal.invariant-loop-oid
invariant-loop-oid l = patched_all (drop l.oid-index l.oids) l.arguments ≡ patched_all l.oids l.initial.arguments
