-- What a decoded column tells.
use Rattle.std.specs.Prelude.{◌≢◌, pos, IfSome, unwrap_or}
use Rattle.pg_wire.specs.Backend.{FieldDescription}
use Rattle.pg_wire.specs.declared.message.row_description.Field.{Field}

-- no table and no column's number stand in the message as 0
abbrev pub described : Field → FieldDescription
described f = record { name = f.name; table = unwrap_or f.relation_id 0; attribute = unwrap_or f.relation_attribute_no (pos 0); type_id = f.type_id; size = f.size; modifier = f.modifier; format = f.format }

-- and 0 is never told as one
abbrev pub TellsNone : Field → Type 0
TellsNone f = IfSome f.relation_id (λ n. n ≢ 0) × IfSome f.relation_attribute_no (λ z. z ≢ pos 0)
