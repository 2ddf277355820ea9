use Rattle.pg_wire.proofs.NumberLaws.{texts_length}
use Rattle.pg_wire.proofs.message.parse.body_length.Goals as goal

pub returns : goal.returns
returns c = texts_length c.args.name.now c.args.sql.now c.args.types.now
