use Rattle.std.proofs.Common.{◌≡◌, drop}
use Rattle.pg_wire.specs.Reports.{first_text}
use Rattle.pg_wire.proofs.fields.first.Given as goal

abbrev pub invariant-loop-field : goal.invariant-loop-field
invariant-loop-field l = first_text l.code (drop l.field-index l.fields) ≡ first_text l.code l.fields
