-- A row of the table as the code has it.
use Rattle.pg_arguments.specs.Builtin as tables
use Rattle.pg_arguments.specs.declared.builtin.Builtin.{Builtin}

abbrev pub shown : Builtin → tables.Builtin
shown b = record { oid = b.oid; name = b.name.now; array = b.array }
